use Rattle.state.specs.Builder.{full_of}
use Rattle.rounds.proofs.FirmLaws.{firm_free}
use Rattle.adoption.proofs.adoption_agency.Goals as goal

pub agency-requires-clause-firm : goal.agency-requires-clause-firm
agency-requires-clause-firm c = firm_free (full_of c.args.b.now) c.has_few_nodes.ensures c.if-has_few_nodes.false c.requires.firm
