-- The calls by number.
-- Assumes nothing.
use Rattle.std.specs.Prelude.{ℕ, ◌≡◌, ◌<◌, ◌⊎◌, Result as OkOrErr, MatchResult}
use Rattle.records.specs.declared.call.Call.{Call}
use Rattle.records.specs.declared.call.Call.TheVariants.{Element, Text, Comment, CreateFormatting, Marker, ClearToMarker, Reconstruct, Adopt, MisnestedA, EndTag, CloseP, CloseCell, ImpliedEndTags, Pop, Foster, PushMode, PopMode, HeadSeen}
use Rattle.records.specs.declared.refusal.Refusal.{Refusal}
use Rattle.records.specs.declared.refusal.Refusal.TheVariants as refusal

abbrev pub call_number : Call → ℕ
call_number Element = 1
call_number Text = 2
call_number Comment = 3
call_number CreateFormatting = 4
call_number Marker = 5
call_number ClearToMarker = 6
call_number Reconstruct = 7
call_number Adopt = 8
call_number MisnestedA = 9
call_number EndTag = 10
call_number CloseP = 11
call_number CloseCell = 12
call_number ImpliedEndTags = 13
call_number Pop = 14
call_number Foster = 15
call_number PushMode = 16
call_number PopMode = 17
call_number HeadSeen = 18

-- the call of a number from 1 to 18; any other number is unknown
abbrev pub IsCallOf : ℕ → OkOrErr Call Refusal → Type 0
IsCallOf n r = MatchResult r (λ c. n ≡ call_number c) (λ e. (e ≡ refusal.Unknown) × ((n ≡ 0) ⊎ (18 < n)))
