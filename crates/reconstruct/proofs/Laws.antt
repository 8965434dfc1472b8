-- The cases of call 7, as the code meets them, for any part of the state that it is not lent.
-- Assumes nothing.
use Rattle.std.proofs.Common.{ℕ, zero, suc, subst, ◌+◌, ◌-◌, ◌<◌, ◌≤◌, ◌≡◌, refl, sym, ap, ◌∙◌, List, [], ◌∷◌, arith, sub-one, length, drop, length-append, length-drop, length-set, lt-ltb, le-ltb, None, Option, Some}
use Rattle.lent.specs.Mem.{slots}
use Rattle.lent.specs.Room.{free_nodes, fresh}
use Rattle.makers.specs.Make.{copied}
use Rattle.places.specs.Places.{Places, Whole, at, places_of, pushed, swapped, down, never, last_with}
use Rattle.places.proofs.Laws.{down_last, of_whole}
use Rattle.state.specs.declared.Core.{Core}
use Rattle.state.specs.declared.Context.{Context}
use Rattle.state.specs.Fields.{set_depth, set_counts, set_nodes, set_depth}
use Rattle.state.specs.Full.{Full, full, result_of, done, with_stack, with_list, with_nodes}
use Rattle.standard.specs.Place.{attached}
use Rattle.standard.specs.Insertion.{usual_place}
use Rattle.standard.specs.Formatting.{after, is_marker_or_open, first_lost, anew_at, anew, anew_room, reconstructed}
use Rattle.standard.specs.declared.Place.{Place}
use Rattle.lent.proofs.Lowest.{fresh_is}

-- ---- the entries that are lost

module _ (s l : Places) {o : Option ℕ} (eo : o ≡ down (is_marker_or_open s) never l.held (length l.held)) where
  pub lost_after : {i : ℕ} → o ≡ Some i → i + 1 ≡ first_lost s l
  unfolding first_lost after last_with
  lost_after h = rw (sym eo ∙ h)

  pub lost_all : o ≡ None → 0 ≡ first_lost s l
  unfolding first_lost after last_with
  lost_all h = rw (sym eo ∙ h)

  pub lost_lt : {i : ℕ} → o ≡ Some i → i < length l.held
  lost_lt {i} h = (down_last (is_marker_or_open s) never l.held (length l.held) i (sym eo ∙ h)).below

-- ---- an entry is made anew

module _ (s n l m p q : List ℕ) (x : Option Context) (c : Core) where
  pub copied_in : (e a : ℕ) {r : Place} {n₁ n' : List ℕ} {c' : Core} → c.counts.nodes < 4096 → r ≡ usual_place (full s c x n l m p q) → a ≡ fresh c.counts.nodes → n₁ ≡ copied n a e → n' ≡ attached n₁ r a
      → c' ≡ set_nodes c (c.counts.nodes + 1) → full s c' x n' l m p q ≡ with_nodes (full s c x n l m p q) (attached (copied n a e) (usual_place (full s c x n l m p q)) a) a
  unfolding with_nodes set_nodes set_counts
  copied_in e a h er ea en et ec = rw (ec, et, en, er, ← fresh_is c.counts.nodes (omega arith), ← ea)

  pub copied_number : {a : ℕ} → c.counts.nodes < 4096 → a ≡ fresh c.counts.nodes → a ≡ c.counts.nodes + 1
  copied_number h ea = ea ∙ fresh_is c.counts.nodes (omega arith)

  put_both : (s' l' : List ℕ) (size : ℕ) (P Q : Places) {c' : Core} → places_of s' size ≡ P → places_of l' c.counts.list ≡ Q → c' ≡ set_depth c size
      → full s' c' x n l' m p q ≡ with_list (with_stack (full s c x n l m p q) P) Q
  unfolding with_list with_stack set_depth
  put_both s' l' size P Q es el ec = rw (ec, es, el)

  pub anew_done : (f : Full) (i a e : ℕ) (s' l' : List ℕ) (size : ℕ) {c' : Core} → e ≡ at f.list i → a ≡ f.nodes.used + 1
      → full s c x n l m p q ≡ with_nodes f (attached (copied f.nodes.mem a e) (usual_place f) a) a
      → places_of s' size ≡ pushed (places_of s c.depth) a → places_of l' c.counts.list ≡ swapped (places_of l c.counts.list) i a → c' ≡ set_depth c size
      → full s' c' x n l' m p q ≡ anew_at f i
  unfolding anew_at with_nodes
  anew_done f i a e s' l' size ee ea eg es el ec =
      put_both s' l' size _ _ es el ec
      ∙ ap (λ (g : Full). with_list (with_stack g (pushed g.stack a)) (swapped g.list i a)) eg
      ∙ rw (ee, ea)

pub with_nodes_stack : (f g : Full) (m : List ℕ) (k : ℕ) → g ≡ with_nodes f m k → g.stack ≡ f.stack
unfolding with_nodes
with_nodes_stack f g m k e = rw e

pub with_nodes_list : (f g : Full) (m : List ℕ) (k : ℕ) → g ≡ with_nodes f m k → g.list ≡ f.list
unfolding with_nodes
with_nodes_list f g m k e = rw e

-- a place is free
pub free_place : (s : List ℕ) (d : ℕ) (p : Places) → places_of s d ≡ p → 0 < length p.free → d < length s
free_place s d p e h =
    let g : 0 < length (drop d s) = subst (λ (q : Places). 0 < length q.free) (sym e) h in
    omega (arith, g, length-drop d s)

pub in_list : (l : List ℕ) (k i : ℕ) (p : Places) → places_of l k ≡ p → Whole p → i < p.size → (i < k) × (k ≤ length l)
in_list l k i p e w h =
    let z : k ≡ p.size = ap (λ (q : Places). q.size) e in
    (omega arith, of_whole l k (subst Whole (sym e) w))

-- ---- all of them: i of count are done, and all comes to G

anew_more : (f : Full) (i k : ℕ) → 0 < k → anew f i k ≡ anew (anew_at f i) (i + 1) (k - 1)
unfolding anew
anew_more f i zero h = absurd (omega arith)
anew_more f i (suc k) h = rw sub-one

anew_none : (f : Full) (i : ℕ) → f ≡ anew f i 0
unfolding anew
anew_none f i = refl

pub anew_turn : (f : Full) (i count : ℕ) {g : Full} → i < count → g ≡ anew_at f i → anew f i (count - i) ≡ anew g (i + 1) (count - (i + 1))
anew_turn f i count h e =
    let z : 0 < count - i = omega arith in
    let b : (count - i) - 1 ≡ count - (i + 1) = omega arith in
    anew_more f i (count - i) z ∙ rw (b, e)

pub anew_end : (f : Full) (i count : ℕ) → count ≤ i → f ≡ anew f i (count - i)
anew_end f i count h = let z : count - i ≡ 0 = omega arith in rw z (anew_none f i)

-- what the entries from i to count on need
pub record Room (f : Full) (i count : ℕ) : Type 0 where
  pub some : 0 < f.stack.size
  pub whole : Whole f.stack
  pub places : count - i ≤ length f.stack.free
  pub size : f.list.size ≡ count
  pub list : Whole f.list
  pub nodes : f.nodes.used + (count - i) ≤ 4096

pub room_turn : (f g : Full) (i count : ℕ) → i < count → Room f i count → g ≡ anew_at f i → Room g (i + 1) count
unfolding anew_at with_list with_stack with_nodes pushed swapped
room_turn f g i count h r e =
    rw e
    (record {
      some = omega arith;
      whole = record { all = rw (length-append f.stack.held ((f.nodes.used + 1) ∷ [])) (omega (arith, r.whole.all)) };
      places = rw (length-drop 1 f.stack.free) (omega (arith, r.places));
      size = r.size;
      list = record { all = r.list.all ∙ sym (length-set f.list.held i (f.nodes.used + 1)) };
      nodes = omega (arith, r.nodes);
    })

-- ---- the whole call

pub nodes_enough : (m : List ℕ) (used k j : ℕ) → used ≤ 4096 → k ≡ free_nodes m used → j ≤ k → used + j ≤ 4096
unfolding free_nodes slots
nodes_enough m used k j u ek h = omega (arith, ek)

module _ (f : Full) (first k : ℕ) (ef : first ≡ first_lost f.stack f.list) (ek : k ≡ free_nodes f.nodes.mem f.nodes.used) where
  room_is : reconstructed f ≡ anew_room f first (f.list.size - first)
  unfolding reconstructed
  room_is = rw (← ef)

  pub few_nodes_lem : k < f.list.size - first → result_of 4 f ≡ reconstructed f
  unfolding anew_room
  few_nodes_lem h = sym (room_is ∙ rw (← ek, lt-ltb k (f.list.size - first) h))

  module _ (g : f.list.size - first ≤ k) where
    pub few_places : 512 - f.stack.size < f.list.size - first → result_of 5 f ≡ reconstructed f
    unfolding anew_room
    few_places h = sym (room_is ∙ rw (← ek, le-ltb k (f.list.size - first) g, lt-ltb (512 - f.stack.size) (f.list.size - first) h))

    pub all_anew : (y : Full) → f.list.size - first ≤ 512 - f.stack.size → y ≡ anew f first (f.list.size - first) → result_of 0 y ≡ reconstructed f
    unfolding anew_room
    all_anew y h e = ap done e ∙ sym (room_is ∙ rw (← ek, le-ltb k (f.list.size - first) g, le-ltb (512 - f.stack.size) (f.list.size - first) h))
