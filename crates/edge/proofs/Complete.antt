-- A test of a rule, what it decides, and a state each allow one thing only: answer, record and every lent slice.
-- Assumes nothing.
use Rattle.std.proofs.Common.{ℕ, ◌≡◌, refl, ap, sym, ◌∙◌, List, ◌++◌, Bool, true, false, cond, take-append-drop, Option}
use Rattle.theory.specs.Says.{Says}
use Rattle.places.specs.Places.{Places, places_of}
use Rattle.state.specs.declared.State.{State}
use Rattle.state.specs.declared.Flags.{Flags}
use Rattle.state.specs.declared.Context.{Context}
use Rattle.state.specs.Fields.{core_of}
use Rattle.state.specs.Full.{Full}
use Rattle.edge.specs.Public.{Checked, whole}

-- a test of one rule has one answer
pub says_one : {P : Type 0} (r r' : Bool) → Says P r → Says P r' → r ≡ r'
says_one true true w v = refl
says_one true false w v = absurd (v.bad refl (w.good refl))
says_one false true w v = absurd (w.bad refl (v.good refl))
says_one false false w v = refl

pub checked_one : {P : Type 0} {A : Type 0} {a b y n : A} → Checked P a y n → Checked P b y n → a ≡ b
checked_one {y = y} {n} w v = w.is ∙ ap (λ (r : Bool). cond r y n) (says_one w.ok v.ok w.says v.says) ∙ sym v.is

-- places that look the same are the same
places_one : (s s' : List ℕ) (d d' : ℕ) → places_of s d ≡ places_of s' d' → (s ≡ s') × (d ≡ d')
places_one s s' d d' e =
    (sym (take-append-drop d s) ∙ ap (λ (p : Places). p.held ++ p.free) e ∙ take-append-drop d' s', ap (λ (p : Places). p.size) e)

-- the parts of a state
pub record Same (st st' : State) (n l m p q n' l' m' p' q' : List ℕ) : Type 0 where
  pub state : st ≡ st'
  pub nodes : n ≡ n'
  pub list : l ≡ l'
  pub modes : m ≡ m'
  pub pieces : p ≡ p'
  pub pairs : q ≡ q'

state_eq : {h h' : List ℕ} {d d' a a' b b' c c' i i' j j' : ℕ} {g g' : Flags} {x x' : Option Context} → h ≡ h' → d ≡ d' → a ≡ a' → b ≡ b' → c ≡ c' → i ≡ i' → j ≡ j' → g ≡ g' → x ≡ x'
    → ◌≡◌ {A = State}
    (record { stack = record { handles = h; depth = d }; counts = record { nodes = a; pieces = b; pairs = c; list = i; modes = j }; flags = g; context = x })
    (record { stack = record { handles = h'; depth = d' }; counts = record { nodes = a'; pieces = b'; pairs = c'; list = i'; modes = j' }; flags = g'; context = x' })
state_eq e1 e2 e3 e4 e5 e6 e7 e8 e9 = cc

-- a state determines the record and the lent memory
pub whole_one : (st st' : State) (n l m p q n' l' m' p' q' : List ℕ) → whole st n l m p q ≡ whole st' n' l' m' p' q' → Same st st' n l m p q n' l' m' p' q'
unfolding whole core_of
whole_one st st' n l m p q n' l' m' p' q' e =
    let s = places_one st.stack.handles st'.stack.handles st.stack.depth st'.stack.depth (ap (λ (f : Full). f.stack) e) in
    let t = places_one l l' st.counts.list st'.counts.list (ap (λ (f : Full). f.list) e) in
    let u = places_one m m' st.counts.modes st'.counts.modes (ap (λ (f : Full). f.modes) e) in
    let a : st.counts.nodes ≡ st'.counts.nodes = ap (λ (f : Full). f.nodes.used) e in
    let b : st.counts.pieces ≡ st'.counts.pieces = ap (λ (f : Full). f.pieces.used) e in
    let c : st.counts.pairs ≡ st'.counts.pairs = ap (λ (f : Full). f.pairs.used) e in
    let g : st.flags ≡ st'.flags = ap (λ (f : Full). f.flags) e in
    let x : st.context ≡ st'.context = ap (λ (f : Full). f.context) e in
    let h : st.stack.handles ≡ st'.stack.handles = s.0 in
    let d : st.stack.depth ≡ st'.stack.depth = s.1 in
    let i : st.counts.list ≡ st'.counts.list = t.1 in
    let j : st.counts.modes ≡ st'.counts.modes = u.1 in
    record {
      state = state_eq h d a b c i j g x;
      nodes = ap (λ (f : Full). f.nodes.mem) e;
      list = t.0;
      modes = u.0;
      pieces = ap (λ (f : Full). f.pieces.mem) e;
      pairs = ap (λ (f : Full). f.pairs.mem) e;
    }
