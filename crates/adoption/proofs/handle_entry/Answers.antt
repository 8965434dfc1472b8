use Rattle.state.specs.Builder.{full_of}
use Rattle.rounds.proofs.FirmLaws.{firm_free, firm_agency}
use Rattle.adoption.proofs.handle_entry.Goals as goal

pub agency-requires-clause-firm : goal.agency-requires-clause-firm
agency-requires-clause-firm c = firm_free (full_of c.args.b.now) c.has_few_nodes.ensures c.if-has_few_nodes.false c.requires.firm

pub leave-requires-clause-stack : goal.leave-requires-clause-stack
leave-requires-clause-stack c = (firm_agency _ _ _ c.agency.ensures.outcome (firm_free (full_of c.args.b.now) c.has_few_nodes.ensures c.if-has_few_nodes.false c.requires.firm)).stack

pub leave-requires-clause-list : goal.leave-requires-clause-list
leave-requires-clause-list c = (firm_agency _ _ _ c.agency.ensures.outcome (firm_free (full_of c.args.b.now) c.has_few_nodes.ensures c.if-has_few_nodes.false c.requires.firm)).list
