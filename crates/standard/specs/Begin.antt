-- A new state: the document, its root `html`, the root open, nothing else. Whatever the lent memory held is overwritten.
-- Assumes nothing.
use Rattle.std.specs.Prelude.{ℕ, min, Bool, false, cond, not, ◌&&◌, ◌||◌, List, length, set, replicate, eqb, ltb, None, Option, Some}
use Rattle.names.specs.Numbers.{is_name}
use Rattle.names.specs.Space as space
use Rattle.names.specs.Tag as tag
use Rattle.arena.specs.Links.{appended}
use Rattle.makers.specs.Make.{document, element}
use Rattle.lent.specs.Room.{free_nodes}
use Rattle.makers.specs.declared.make.Tag.{Tag}
use Rattle.state.specs.declared.Context.{Context}
use Rattle.state.specs.declared.State.{State}
use Rattle.standard.specs.Insertion.{is_markable}

-- the number of the mode In template, in the standard's order of insertion modes
abbrev pub IN_TEMPLATE : ℕ
IN_TEMPLATE = 16

-- a mark is 0, or 1 on MathML annotation-xml
unfoldable pub bad_mark : ℕ → ℕ → ℕ → Bool
bad_mark ns name mark = cond (eqb mark 0) false (not (eqb mark 1 && is_markable ns name))

unfoldable pub bad_context : Option Context → Bool
bad_context None = false
bad_context (Some x) = ltb 2 x.space || (not (is_name x.name) || bad_mark x.space x.name x.mark)

-- 13.2.4.1, parsing fragments: where the context is an HTML `template`, In template is pushed
unfoldable pub is_template_context : Option Context → Bool
is_template_context None = false
is_template_context (Some x) = eqb x.space space.html && eqb x.name tag.template

unfoldable pub first_modes : Option Context → ℕ
first_modes x = cond (is_template_context x) 1 0

-- the answer: 2, 4, 6 or done
unfoldable pub begin_answer : List ℕ → List ℕ → Option Context → ℕ
begin_answer n m x =
    cond (bad_context x) 2
    (cond (ltb (free_nodes n 0) 2) 4
    (cond (ltb (min (length m) 64) (first_modes x)) 6 0))

abbrev pub root_tag : Tag
root_tag = record { space = space.html; name = tag.html; mark = 0; start = 0; count = 0 }

unfoldable pub begin_nodes : List ℕ → List ℕ
begin_nodes n = appended (element (document n 1) 2 root_tag) 1 2

unfoldable pub begin_modes : List ℕ → Option Context → List ℕ
begin_modes m x = cond (is_template_context x) (set m 0 IN_TEMPLATE) m

unfoldable pub begin_state : Option Context → State
begin_state x =
    record {
      stack = record { handles = set (replicate 512 0) 0 2; depth = 1 };
      counts = record { nodes = 2; pieces = 0; pairs = 0; list = 0; modes = first_modes x };
      flags = record { foster = 0; head = 0 };
      context = x;
    }

-- answer, record, nodes and modes after it
pub record Begun : Type 0 where
  pub answer : ℕ
  pub state : State
  pub nodes : List ℕ
  pub modes : List ℕ

abbrev pub begun : ℕ → State → List ℕ → List ℕ → Begun
begun k st n m = record { answer = k; state = st; nodes = n; modes = m }

-- a refused begin keeps the record and what was lent
unfoldable pub begin_of : State → List ℕ → List ℕ → Option Context → Begun
begin_of st n m x =
    cond (eqb (begin_answer n m x) 0) (begun 0 (begin_state x) (begin_nodes n) (begin_modes m x)) (begun (begin_answer n m x) st n m)
