-- Call 4 as a call 1 with a place on the list, over the whole state; and the list without its surplus entry.
-- Assumes nothing.
use Rattle.std.specs.Option.{ForSome}
use Rattle.std.proofs.Common.{ℕ, zero, suc, ◌+◌, ◌-◌, ◌<◌, ◌≤◌, min, ◌≡◌, refl, ap, ◌∙◌, Bool, true, false, cond, not, ◌||◌, List, arith, length, length-append, length-take, length-drop, take, drop, ltb, lt-ltb, le-ltb, ltb-true, None, Option, Some}
use Rattle.std.proofs.lemmas.Bool.{not-false}
use Rattle.names.specs.Space as space
use Rattle.names.specs.Sets.{is_in, Formatting}
use Rattle.names.proofs.Members.{Plain, formatting_plain}
use Rattle.lent.specs.Room.{free_nodes, free_pairs}
use Rattle.makers.specs.Make.{nodes_of, is_template}
use Rattle.places.specs.Places.{Places, Whole, places_of, without, left_at}
use Rattle.places.proofs.Laws.{of_whole}
use Rattle.state.specs.Full.{Full, refused, done}
use Rattle.standard.specs.Small.{room}
use Rattle.standard.specs.Pairs.{pairs_in}
use Rattle.standard.specs.Insertion.{bad_tag, bad_pairs, new_tag, element_done, element_room, inserted_element}
use Rattle.standard.specs.Formatting.{surplus, bad_formatting}
use Rattle.entries.proofs.SurplusLaws.{surplus_below}

-- ---- the list

pub size_some : (p : Places) (i : ℕ) → (left_at (Some i) p).size ≡ p.size - 1
unfolding left_at without
size_some p i = refl

pub size_none : (p : Places) → (left_at None p).size ≡ p.size
unfolding left_at
size_none p = refl

-- an entry that leaves gives its place back
pub left_room : (l : List ℕ) (k : ℕ) (o : Option ℕ) → Whole (places_of l k) → ForSome o (λ i. i < k) → room 256 (left_at o (places_of l k)) ≡ min (length l) 256
unfolding room left_at without
left_room l k None w lt = ap (λ (n : ℕ). min n 256) (simp (length-take, length-drop) (omega (arith, of_whole l k w)))
left_room l k (Some i) w lt = ap (λ (n : ℕ). min n 256) (simp (length-append, length-take, length-drop) (omega (arith, of_whole l k w, lt i refl)))

-- the surplus entry is one of those in use
pub extra_below : (p : ℕ → Bool) (l : Places) → Whole l → ForSome (surplus p l) (λ i. i < l.size)
extra_below p l w = λ i e. omega (arith, w.all, surplus_below p l i e)

-- where the list is not full without it, there is a place
pub left_fits : (l : List ℕ) (k : ℕ) (o : Option ℕ) → Whole (places_of l k) → ForSome o (λ i. i < k) → not (ltb (left_at o (places_of l k)).size (room 256 (left_at o (places_of l k)))) ≡ false
    → (left_at o (places_of l k)).size < length (take k l) + length (drop k l)
left_fits l k o w lt h =
    let e : (left_at o (places_of l k)).size < room 256 (left_at o (places_of l k))
    = ltb-true (left_at o (places_of l k)).size (room 256 (left_at o (places_of l k))) (not-false (ltb (left_at o (places_of l k)).size (room 256 (left_at o (places_of l k)))) h) in
    simp (length-take, length-drop) (omega (arith, left_room l k o w lt, of_whole l k w))

-- ---- the element: as call 1 with push

positive : (k : ℕ) → (k ≡ 0 → ⊥) → 1 ≤ k
positive zero h = absurd (h refl)
positive (suc k) h = omega arith

or_both : (a b : Bool) → a || b ≡ false → (a ≡ false) × (b ≡ false)
or_both true b h = let z : ◌≡◌ {A = ℕ} 0 1 = cc in absurd (omega arith)
or_both false b h = (refl, h)

good_tag : (name : ℕ) → Plain name → bad_tag space.html name 1 ≡ false
unfolding bad_tag
good_tag name k = rw (k.known, k.no_html)

one_node : (f : Full) (name count : ℕ) → Plain name → nodes_of (new_tag f space.html name 1 count) ≡ 1
unfolding nodes_of is_template new_tag
one_node f name count k = rw k.no_template

-- with a node free and the stack not full, it has only to find room for its pairs
module _ (s : List ℕ) (f : Full) (name from count : ℕ) (good : bad_formatting s name from count ≡ false) where
  plain_is : Plain name
  unfolding bad_formatting
  plain_is = formatting_plain name (not-false (is_in Formatting space.html name) (or_both (not (is_in Formatting space.html name)) (bad_pairs s from count) good).0)

  element_is : inserted_element s f space.html name 1 from count ≡ element_room f (new_tag f space.html name 1 count) (pairs_in s from count) true
  unfolding inserted_element bad_formatting
  element_is = rw (good_tag name plain_is, (or_both (not (is_in Formatting space.html name)) (bad_pairs s from count) good).1)

  pub element_case : (free_nodes f.nodes.mem f.nodes.used ≡ 0 → ⊥) → f.stack.size < 512 → inserted_element s f space.html name 1 from count
      ≡ cond (ltb (free_pairs f.pairs.mem f.pairs.used) count) (refused 8 f) (done (element_done f (new_tag f space.html name 1 count) (pairs_in s from count) true))
  unfolding element_room new_tag
  element_case nodes fits = element_is ∙ rw (one_node f name count plain_is, le-ltb (free_nodes f.nodes.mem f.nodes.used) 1 (positive (free_nodes f.nodes.mem f.nodes.used) nodes), lt-ltb f.stack.size 512 fits)
