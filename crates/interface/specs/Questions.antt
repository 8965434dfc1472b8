-- The questions of module 8, and when each is refused: for each number of the answer table, whether it applies to the question. The
-- answer is the lowest that does.
-- Assumes nothing.
use Rattle.std.specs.Prelude.{ℕ, zero, suc, ◌<◌, ◌≡◌, Bool, true, false, cond, ◌&&◌, List, [], ◌∷◌, eqb, ltb, None, Option, Some, Result as OkOrErr}
use Rattle.lent.specs.declared.Node.{Node}
use Rattle.names.specs.Space as space
use Rattle.names.specs.Tag as tag
use Rattle.names.specs.Sets.{member}
use Rattle.places.specs.Places.{at}
use Rattle.records.specs.declared.refusal.Refusal.{Refusal}
use Rattle.state.specs.declared.Context.{Context}
use Rattle.state.specs.Full.{Full}
use Rattle.standard.specs.Refusals.{Refusals, refusals, only_unknown, only_nothing}
use Rattle.queries.specs.declared.reset.Mode.{Mode}
use Rattle.queries.specs.declared.tokenizer.TokenizerState.{TokenizerState}
use Rattle.queries.specs.Told.{Asked, asked}
use Rattle.queries.specs.Element.{Expanded, standing}
use Rattle.queries.specs.Reset.{mode_number, reset_mode}
use Rattle.queries.specs.Foreign.{bad_token, flag_number, is_foreign}
use Rattle.queries.specs.BodyElem.{node_number, FindsNode, body_elem}
use Rattle.queries.specs.Tokenizer.{state_number, tokenizer_state}

pub data Question : Type 0 where
  -- reset_insertion_mode
  reset : Question
  -- is_foreign: the token's kind, and a tag's name
  foreign : ℕ → ℕ → Question
  -- body_elem
  body : Question
  -- tokenizer_state_for_context_elem: the scripting flag
  tokenizer : ℕ → Question

-- what it gives where it is not refused, and the number of that
abbrev pub Value : Question → Type 0
Value reset = Mode
Value (foreign kind name) = Bool
Value body = Option Node
Value (tokenizer scripting) = TokenizerState

abbrev pub Answered : Question → Type 0
Answered q = OkOrErr (Value q) Refusal

abbrev pub value_number : (q : Question) → Value q → ℕ
value_number reset v = mode_number v
value_number (foreign kind name) v = flag_number v
value_number body v = node_number v
value_number (tokenizer scripting) v = state_number v

-- a result by its answer number and the number of its value
abbrev pub asked_by : (q : Question) → Answered q → Asked
asked_by q r = asked (value_number q) r

-- and what more is said of it: a body that is found is a node, so that 0 stands for none alone
abbrev pub Named : (q : Question) → Answered q → Type 0
Named reset r = Unit {0}
Named (foreign kind name) r = Unit {0}
Named body r = FindsNode r
Named (tokenizer scripting) r = Unit {0}

-- the answer and the value, as the definitions have them
unfoldable pub answer_of : Question → Full → Asked
answer_of reset f = reset_mode f
answer_of (foreign kind name) f = is_foreign f kind name
answer_of body f = body_elem f
answer_of (tokenizer scripting) f = tokenizer_state f scripting

-- ---- reset: "answers 3 at a template with no template mode; td, th and head count only when not last"

-- the names at which a reset ends; the last element looked at is the first of the stack
unfoldable pub deciding : Bool → List ℕ
deciding true =
    tag.tr ∷ tag.tbody ∷ tag.thead ∷ tag.tfoot ∷ tag.caption ∷ tag.colgroup ∷ tag.table ∷ tag.template ∷ tag.body ∷ tag.frameset ∷ tag.html ∷ []
deciding false =
    tag.td ∷ tag.th ∷ tag.tr ∷ tag.tbody ∷ tag.thead ∷ tag.tfoot ∷ tag.caption ∷ tag.colgroup ∷ tag.table ∷ tag.template ∷ tag.head ∷
    tag.body ∷ tag.frameset ∷ tag.html ∷ []

unfoldable pub decides : Bool → Expanded → Bool
decides last e = eqb e.space space.html && member e.name (deciding last)

unfoldable pub is_template : Expanded → Bool
is_template e = eqb e.space space.html && eqb e.name tag.template

-- what entry k of the stack stands for: in the fragment case the context stands in for the first
unfoldable pub entry_of : Full → ℕ → Expanded
entry_of f k = standing f.nodes.mem f.context (at f.stack k) k

-- of the first k entries the last at which a reset ends is a template
unfoldable pub at_template : Full → ℕ → Bool
at_template f zero = false
at_template f (suc k) = cond (decides (eqb k 0) (entry_of f k)) (is_template (entry_of f k)) (at_template f k)

-- the same in words: an open template, and after it on the stack nothing at which a reset ends
pub record EndsAtTemplate (f : Full) : Type 0 where
  pub place : ℕ
  pub held : place < f.stack.size
  pub template : is_template (entry_of f place) ≡ true
  pub first : (j : ℕ) → place < j → j < f.stack.size → decides (eqb j 0) (entry_of f j) ≡ false

-- ---- when each is refused

unfoldable pub without_context : Option Context → Bool
without_context None = true
without_context (Some x) = false

-- an unknown flag and no context may meet: 2 and 3 both apply
unfoldable pub refusals_of_question : Question → Full → Refusals
refusals_of_question reset f = only_nothing (at_template f f.stack.size && eqb f.modes.size 0)
refusals_of_question (foreign kind name) f = only_unknown (bad_token kind name)
refusals_of_question body f = only_unknown false
refusals_of_question (tokenizer scripting) f = refusals (ltb 1 scripting) (without_context f.context) false false false false false
