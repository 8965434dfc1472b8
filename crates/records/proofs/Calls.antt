-- Every call has a number of the table.
-- Assumes nothing.
use Rattle.std.proofs.Common.{◌<◌, arith}
use Rattle.records.specs.declared.call.Call.{Call}
use Rattle.records.specs.declared.call.Call.TheVariants.{Element, Text, Comment, CreateFormatting, Marker, ClearToMarker, Reconstruct, Adopt, MisnestedA, EndTag, CloseP, CloseCell, ImpliedEndTags, Pop, Foster, PushMode, PopMode, HeadSeen}
use Rattle.records.specs.Call.{call_number}

pub call_low : (c : Call) → call_number c < 19
call_low Element = omega arith
call_low Text = omega arith
call_low Comment = omega arith
call_low CreateFormatting = omega arith
call_low Marker = omega arith
call_low ClearToMarker = omega arith
call_low Reconstruct = omega arith
call_low Adopt = omega arith
call_low MisnestedA = omega arith
call_low EndTag = omega arith
call_low CloseP = omega arith
call_low CloseCell = omega arith
call_low ImpliedEndTags = omega arith
call_low Pop = omega arith
call_low Foster = omega arith
call_low PushMode = omega arith
call_low PopMode = omega arith
call_low HeadSeen = omega arith
