use Rattle.theory.specs.Says.{zeros, says_map}
use Rattle.texts.specs.Words.{texts→words, words→texts}
use Rattle.texts.proofs.texts.Goals as goal

pub every-requires-clause-unseen : goal.every-requires-clause-unseen
every-requires-clause-unseen c = zeros 8193

pub returns : goal.returns
returns c = says_map c.every.ensures texts→words words→texts
