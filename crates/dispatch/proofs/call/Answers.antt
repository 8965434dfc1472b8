use Rattle.std.proofs.Common.{ap, refl, ◌∙◌, rules}
use Rattle.records.specs.Call.{call_number}
use Rattle.dispatch.proofs.Numbers as number
use Rattle.dispatch.proofs.ReadyLaws as ready
use Rattle.dispatch.proofs.call.Goals as goal

pub adoption_agency-requires-clause-firm : goal.adoption_agency-requires-clause-firm
adoption_agency-requires-clause-firm c = ready.ready_firm _ c.requires

pub handle_misnested_a_tags-requires-clause-firm : goal.handle_misnested_a_tags-requires-clause-firm
handle_misnested_a_tags-requires-clause-firm c = ready.ready_firm _ c.requires

pub returns-in_err-try_from-clause-outcome : goal.returns-in_err-try_from-clause-outcome
returns-in_err-try_from-clause-outcome c = number.step_unknown _ _ _ c.in_err-try_from.ensures.1 (search (rules, c.in_err-try_from.ensures.0))

pub returns-in-Element-clause-outcome : goal.returns-in-Element-clause-outcome
returns-in-Element-clause-outcome c =
    number.step_1 _ _ _ refl refl refl (c.in_ok-try_from.ensures ∙ ap call_number c.in-Element.is) c.element.ensures.outcome

pub returns-in-Text-clause-outcome : goal.returns-in-Text-clause-outcome
returns-in-Text-clause-outcome c = number.step_2 _ _ _ (c.in_ok-try_from.ensures ∙ ap call_number c.in-Text.is) c.text.ensures.outcome

pub returns-in-Comment-clause-outcome : goal.returns-in-Comment-clause-outcome
returns-in-Comment-clause-outcome c = number.step_3 _ _ _ (c.in_ok-try_from.ensures ∙ ap call_number c.in-Comment.is) c.comment.ensures.outcome

pub returns-in-CreateFormatting-clause-outcome : goal.returns-in-CreateFormatting-clause-outcome
returns-in-CreateFormatting-clause-outcome c =
    number.step_4 _ _ _ refl refl refl (c.in_ok-try_from.ensures ∙ ap call_number c.in-CreateFormatting.is) c.create.ensures.outcome

pub returns-in-Marker-clause-outcome : goal.returns-in-Marker-clause-outcome
returns-in-Marker-clause-outcome c = number.step_5 _ _ _ (c.in_ok-try_from.ensures ∙ ap call_number c.in-Marker.is) c.marker.ensures.outcome

pub returns-in-ClearToMarker-clause-outcome : goal.returns-in-ClearToMarker-clause-outcome
returns-in-ClearToMarker-clause-outcome c = number.step_6 _ _ _ (c.in_ok-try_from.ensures ∙ ap call_number c.in-ClearToMarker.is) c.clear.ensures.outcome

pub returns-in-Reconstruct-clause-outcome : goal.returns-in-Reconstruct-clause-outcome
returns-in-Reconstruct-clause-outcome c = number.step_7 _ _ _ (c.in_ok-try_from.ensures ∙ ap call_number c.in-Reconstruct.is) c.reconstruct_active_formatting_elements.ensures.outcome

pub returns-in-Adopt-clause-outcome : goal.returns-in-Adopt-clause-outcome
returns-in-Adopt-clause-outcome c = number.step_8 _ _ _ (c.in_ok-try_from.ensures ∙ ap call_number c.in-Adopt.is) c.adoption_agency.ensures.outcome

pub returns-in-MisnestedA-clause-outcome : goal.returns-in-MisnestedA-clause-outcome
returns-in-MisnestedA-clause-outcome c = number.step_9 _ _ _ (c.in_ok-try_from.ensures ∙ ap call_number c.in-MisnestedA.is) c.handle_misnested_a_tags.ensures.outcome

pub returns-in-EndTag-clause-outcome : goal.returns-in-EndTag-clause-outcome
returns-in-EndTag-clause-outcome c = number.step_10 _ _ _ (c.in_ok-try_from.ensures ∙ ap call_number c.in-EndTag.is) c.process_end_tag_in_body.ensures.outcome

pub returns-in-CloseP-clause-outcome : goal.returns-in-CloseP-clause-outcome
returns-in-CloseP-clause-outcome c = number.step_11 _ _ _ (c.in_ok-try_from.ensures ∙ ap call_number c.in-CloseP.is) c.close_p_element.ensures.outcome

pub returns-in-CloseCell-clause-outcome : goal.returns-in-CloseCell-clause-outcome
returns-in-CloseCell-clause-outcome c = number.step_12 _ _ _ (c.in_ok-try_from.ensures ∙ ap call_number c.in-CloseCell.is) c.close_the_cell.ensures.outcome

pub returns-in-ImpliedEndTags-clause-outcome : goal.returns-in-ImpliedEndTags-clause-outcome
returns-in-ImpliedEndTags-clause-outcome c = number.step_13 _ _ _ (c.in_ok-try_from.ensures ∙ ap call_number c.in-ImpliedEndTags.is) c.generate_implied_end_tags.ensures.outcome

pub returns-in-Pop-clause-outcome : goal.returns-in-Pop-clause-outcome
returns-in-Pop-clause-outcome c = number.step_14 _ _ _ (c.in_ok-try_from.ensures ∙ ap call_number c.in-Pop.is) c.pop.ensures.outcome

pub returns-in-Foster-clause-outcome : goal.returns-in-Foster-clause-outcome
returns-in-Foster-clause-outcome c = number.step_15 _ _ _ (c.in_ok-try_from.ensures ∙ ap call_number c.in-Foster.is) c.foster.ensures.outcome

pub returns-in-PushMode-clause-outcome : goal.returns-in-PushMode-clause-outcome
returns-in-PushMode-clause-outcome c = number.step_16 _ _ _ (c.in_ok-try_from.ensures ∙ ap call_number c.in-PushMode.is) c.push_mode.ensures.outcome

pub returns-in-PopMode-clause-outcome : goal.returns-in-PopMode-clause-outcome
returns-in-PopMode-clause-outcome c = number.step_17 _ _ _ (c.in_ok-try_from.ensures ∙ ap call_number c.in-PopMode.is) c.pop_mode.ensures.outcome

pub returns-in-HeadSeen-clause-outcome : goal.returns-in-HeadSeen-clause-outcome
returns-in-HeadSeen-clause-outcome c = number.step_18 _ _ _ (c.in_ok-try_from.ensures ∙ ap call_number c.in-HeadSeen.is) c.head.ensures.outcome
