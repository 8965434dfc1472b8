-- Steps 4.9 to 4.19 with the bookmark as a node number (`specs/Bookmark.antt`) and as a position (`standard/specs/Adoption.antt`) give
-- the same state. The two bookmarks stay at one place: the code's is the formatting element, or a node made in the loop, and a node
-- that the loop meets is neither.
-- Assumes nothing.
use Rattle.std.proofs.Common.{ℕ, zero, suc, ◌+◌, ◌-◌, ◌≤◌, ◌<◌, ◌≡◌, refl, ap, sym, ◌∙◌, Bool, true, false, cond, inl, inr, List, arith, eqb, ltb, length, get_or, get_or-set_other, eq-eqb, ne_eqb, eqb-true, ltb-false, None, Option, Some}
use Rattle.std.proofs.lemmas.Bool.{eqb-false}
use Rattle.places.specs.Places.{Places, Whole, at, same, without, swapped, place_of, exchanged, renamed}
use Rattle.places.proofs.Laws.{Last, exchanged_none}
use Rattle.state.specs.Full.{Full, with_stack, with_list, with_nodes}
use Rattle.standard.specs.Place.{node}
use Rattle.standard.specs.Adoption.{entry_of, furthest_of, Inner, inner_at, gone, left_stack, left_both, renewed_in, renewed_at, turn_at, turned, inner, at_mark, relisted, finished, started, adopted}
use Rattle.adopted.specs.declared.bookmark.Bookmark.{Bookmark}
use Rattle.adopted.specs.declared.bookmark.Bookmark.TheVariants.{Replace, InsertAfter}
use Rattle.adopted.specs.Bookmark as bookmark
use Rattle.adopted.specs.Firm.{Firm}
use Rattle.adopted.proofs.Position.{entry_last, place_at, place_last, last_place, last_without, without_before, last_swapped, last_new, gone_next, replaced_is, inserted_is}
use Rattle.adopted.proofs.Bound.{turn_more}
use Rattle.adopted.proofs.FirmLaws.{Listed, Deep, firm_held, turn_deep, furthest_lt}

-- the node that a bookmark speaks of
node_of : Bookmark → ℕ
node_of (Replace x) = x.0
node_of (InsertAfter x) = x.0

-- it is the formatting element, or a node made since the u nodes at the start
Good : Bookmark → ℕ → ℕ → Type 0
Good (Replace x) fe u = x.0 ≡ fe
Good (InsertAfter x) fe u = u < x.0

-- the two bookmarks are at one place
record Agree (l : Places) (b : Bookmark) (p fe u : ℕ) : Type 0 where
  pub place : ℕ
  pub last : Last (same (node_of b)) l.held (length l.held) place
  pub next : p ≡ place + 1
  pub good : Good b fe u

apart : (xs : List ℕ) (x y k i j : ℕ) → Last (same x) xs k i → Last (same y) xs k j → (x ≡ y → ⊥) → i ≡ j → ⊥
apart xs x y k i j a b n e = n (sym (eqb-true (get_or xs i 0) x a.has) ∙ ap (λ (m : ℕ). get_or xs m 0) e ∙ eqb-true (get_or xs j 0) y b.has)

-- ---- 4.18

-- both put the new entry at one place
same_relisted : (b : Bookmark) (l : Places) (fe p u n : ℕ) → Whole l → fe ≤ u → Agree l b p fe u → bookmark.relisted b l fe n ≡ relisted p l fe n
unfolding bookmark.relisted relisted at_mark node_of Good
same_relisted (Replace x) l fe p u n w k a =
    let e : place_of l fe ≡ Some a.place = ap (place_of l) (sym a.good) ∙ last_place l x.0 a.place a.last in
    ap (λ (y : ℕ). renamed l y n) a.good ∙ replaced_is l fe a.place n w e ∙ rw (e, a.next)
same_relisted (InsertAfter x) l fe p u n w k a = by (place_of l fe) refl
  where
    by : (q : Option ℕ) → place_of l fe ≡ q → exchanged l fe x.0 n ≡ at_mark q l p n
    by None e = sym (exchanged_none l fe x.0 n e)
    by (Some j) e =
        let d : j ≡ a.place → ⊥ = apart l.held fe x.0 (length l.held) j a.place (place_last l fe j e) a.last (λ z. absurd (omega (arith, a.good))) in
        inserted_is l fe x.0 j a.place n e (last_place l x.0 a.place a.last) d ∙ ap (λ (y : ℕ). at_mark (Some j) l y n) (sym a.next)

-- ---- one turn

-- a node that was there at the start, other than the formatting element, is not the bookmark's
other : (b : Bookmark) (fe u n : ℕ) → Good b fe u → n ≤ u → (n ≡ fe → ⊥) → n ≡ node_of b → ⊥
unfolding Good node_of
other (Replace x) fe u n g le d e = d (e ∙ g)
other (InsertAfter x) fe u n g le d e = absurd (omega (arith, g))

-- node n, entry j of the list, is met
module _ (l : Places) (b : Bookmark) (p fe u n j : ℕ) (a : Agree l b p fe u) (le : n ≤ u) (d : n ≡ fe → ⊥) (e : place_of l n ≡ Some j) where
  away : j ≡ a.place → ⊥
  away = apart l.held n (node_of b) (length l.held) j a.place (place_last l n j e) a.last (other b fe u n a.good le d)

  agree_without : Agree (without l j) b (gone p j) fe u
  agree_without =
      record {
        place = gone a.place j;
        last = last_without l j (place_last l n j e).below (same (node_of b)) a.place a.last away;
        next = rw a.next (sym (gone_next a.place j away));
        good = a.good;
      }

  agree_swapped : (new : ℕ) → (new ≡ node_of b → ⊥) → Agree (swapped l j new) b p fe u
  unfolding swapped
  agree_swapped new x =
      record { place = a.place; last = last_swapped (same (node_of b)) l.held j a.place new a.last away (ne_eqb new (node_of b) x); next = a.next; good = a.good }

agree_moved : (l : Places) (fe u n j new : ℕ) → place_of l n ≡ Some j → ((i : ℕ) → i < length l.held → get_or l.held i 0 ≡ new → ⊥) → u < new
    → Agree (swapped l j new) (InsertAfter (node new)) (j + 1) fe u
unfolding swapped Good node_of
agree_moved l fe u n j new e fresh lt =
    record {
      place = j;
      last = last_new (same new) l.held j new (place_last l n j e).below (eq-eqb new new refl) (λ i h. ne_eqb (get_or l.held i 0) new (fresh i h));
      next = refl;
      good = lt;
    }

-- ---- the loop

-- the same walk with the other bookmark
mk : Inner → Bookmark → bookmark.Inner
mk w b = bookmark.inner_at w.full w.last b

-- Nodes made from now on are new: there are places for them below the marker's number; and the k places of the stack that are still to be
-- met hold nodes that were there at the start.
record Fresh (w : Inner) (c k u : ℕ) : Type 0 where
  pub walk : Deep w k
  pub met : (i : ℕ) → i < k → get_or w.full.stack.held i 0 ≤ u
  pub room : w.full.nodes.used + (3 - c) < 4096
  pub old : u ≤ w.full.nodes.used

turn_mk : (q : Option ℕ) (w : Inner) (b : Bookmark) (block i c : ℕ) → bookmark.turn_at q (mk w b) block i c ≡ mk (turn_at q w block i c) (bookmark.turn_at q (mk w b) block i c).mark
unfolding bookmark.turn_at turn_at mk renewed_at bookmark.renewed_at
turn_mk None w b block i c = refl
turn_mk (Some j) w b block i c = by (ltb 3 c)
  where
    by : (o : Bool)
        → cond {A = bookmark.Inner} o (bookmark.inner_at (left_both w.full i j) w.last b) (bookmark.renewed_at (mk w b) block i j)
        ≡ mk (cond {A = Inner} o (inner_at (left_both w.full i j) w.last (gone w.mark j)) (renewed_at w block i j))
        (cond {A = bookmark.Inner} o (bookmark.inner_at (left_both w.full i j) w.last b) (bookmark.renewed_at (mk w b) block i j)).mark
    by true = refl
    by false = refl

-- an entry of the list is not a node that has yet to be made
unlisted : (n x new : ℕ) → Listed n x → n < new → new < 4096 → x ≡ new → ⊥
unlisted n x new (inl a) g h e = absurd (omega arith)
unlisted n x new (inr a) g h e = absurd (omega arith)

turn_agree : (q : Option ℕ) (w : Inner) (b : Bookmark) (block i c fe u : ℕ) → place_of w.full.list (at w.full.stack i) ≡ q → at w.full.stack i ≤ u → (at w.full.stack i ≡ fe → ⊥)
    → Agree w.full.list b w.mark fe u → Fresh w c (suc i) u
    → Agree (turn_at q w block i (c + 1)).full.list (bookmark.turn_at q (mk w b) block i (c + 1)).mark (turn_at q w block i (c + 1)).mark fe u
unfolding bookmark.turn_at turn_at mk renewed_at bookmark.renewed_at left_stack left_both renewed_in bookmark.mark_of with_stack with_list with_nodes
turn_agree None w b block i c fe u e le d a h = a
turn_agree (Some j) w b block i c fe u e le d a h = by (ltb 3 (c + 1)) refl (eqb w.last block)
  where
    n : ℕ
    n = w.full.nodes.used

    fresh : c + 1 ≤ 3 → (x : ℕ) → x < length w.full.list.held → get_or w.full.list.held x 0 ≡ w.full.nodes.used + 1 → ⊥
    fresh z x lt = unlisted w.full.nodes.used (get_or w.full.list.held x 0) (w.full.nodes.used + 1) (h.walk.held.list.each.has x lt) (omega arith) (omega (arith, h.room))

    unmarked : c + 1 ≤ 3 → w.full.nodes.used + 1 ≡ node_of b → ⊥
    unmarked z y = fresh z a.place a.last.below (eqb-true (get_or w.full.list.held a.place 0) (node_of b) a.last.has ∙ sym y)

    by : (o : Bool) → ltb 3 (c + 1) ≡ o → (m : Bool)
        → Agree (cond {A = Inner} o (inner_at (left_both w.full i j) w.last (gone w.mark j)) (inner_at (renewed_in w.full i j w.last) (n + 1) (cond m (j + 1) w.mark))).full.list
        (cond {A = bookmark.Inner} o (bookmark.inner_at (left_both w.full i j) w.last b) (bookmark.inner_at (renewed_in w.full i j w.last) (n + 1) (cond m (InsertAfter (node (n + 1))) b))).mark
        (cond {A = Inner} o (inner_at (left_both w.full i j) w.last (gone w.mark j)) (inner_at (renewed_in w.full i j w.last) (n + 1) (cond m (j + 1) w.mark))).mark fe u
    by true z m = agree_without w.full.list b w.mark fe u (at w.full.stack i) j a le d e
    by false z true = agree_moved w.full.list fe u (at w.full.stack i) j (n + 1) e (fresh (ltb-false 3 (c + 1) z)) (omega (arith, h.old))
    by false z false = agree_swapped w.full.list b w.mark fe u (at w.full.stack i) j a le d e (n + 1) (unmarked (ltb-false 3 (c + 1) z))

-- places before entry i stay as they were
turn_front : (q : Option ℕ) (w : Inner) (block i c x : ℕ) → i < length w.full.stack.held → x < i → get_or (turn_at q w block i c).full.stack.held x 0 ≡ get_or w.full.stack.held x 0
unfolding turn_at left_stack left_both renewed_at renewed_in with_stack with_list with_nodes swapped
turn_front None w block i c x h lt = without_before w.full.stack i h x lt
turn_front (Some j) w block i c x h lt = by (ltb 3 c)
  where
    by : (o : Bool) → get_or (cond {A = Inner} o (inner_at (left_both w.full i j) w.last (gone w.mark j)) (renewed_at w block i j)).full.stack.held x 0 ≡ get_or w.full.stack.held x 0
    by true = without_before w.full.stack i h x lt
    by false = get_or-set_other w.full.stack.held i x (w.full.nodes.used + 1) 0 (λ z. absurd (omega arith))

turn_fresh : (q : Option ℕ) (w : Inner) (block i c u : ℕ) → place_of w.full.list (at w.full.stack i) ≡ q → Fresh w c (suc i) u → Fresh (turn_at q w block i (c + 1)) (c + 1) i u
turn_fresh q w block i c u e h =
    let m = turn_more q w block i c in
    record {
      walk = turn_deep q w block i (c + 1) e h.walk;
      met = λ x lt. rw (turn_front q w block i (c + 1) x h.walk.deep lt) (h.met x (omega arith));
      room = omega (arith, h.room, m.most);
      old = omega (arith, h.old, m.least);
    }

-- what the loop with a node number ends in: the same state and node, and bookmarks that agree
record Ends (w : Inner) (v : bookmark.Inner) (fe u : ℕ) : Type 0 where
  pub mark : Bookmark
  pub same_as : v ≡ mk w mark
  pub agree : Agree w.full.list mark w.mark fe u
  pub whole : Whole w.full.list

node_at : (w : Inner) (c i u : ℕ) → Fresh w c (suc i) u → at w.full.stack i ≤ u
unfolding at
node_at w c i u h = h.met i (omega arith)

-- the two loops go together
inner_agree : (k c : ℕ) (w : Inner) (b : Bookmark) (fe block u : ℕ) → Agree w.full.list b w.mark fe u → Fresh w c k u
    → Ends (inner w fe block c k) (bookmark.inner (mk w b) fe block c k) fe u
unfolding inner bookmark.inner turned bookmark.turned mk
inner_agree zero c w b fe block u a h = record { mark = b; same_as = refl; agree = a; whole = h.walk.held.list.whole }
inner_agree (suc i) c w b fe block u a h = by (eqb (at w.full.stack i) fe) refl (λ v x y. inner_agree i (c + 1) v x fe block u y)
  where
    q : Option ℕ
    q = place_of w.full.list (at w.full.stack i)

    by : (o : Bool) → eqb (at w.full.stack i) fe ≡ o
        → ((v : Inner) (x : Bookmark) → Agree v.full.list x v.mark fe u → Fresh v (c + 1) i u → Ends (inner v fe block (c + 1) i) (bookmark.inner (mk v x) fe block (c + 1) i) fe u)
        → Ends (cond o w (inner (turn_at q w block i (c + 1)) fe block (c + 1) i)) (cond o (mk w b) (bookmark.inner (bookmark.turn_at q (mk w b) block i (c + 1)) fe block (c + 1) i)) fe u
    by true z r = record { mark = b; same_as = refl; agree = a; whole = h.walk.held.list.whole }
    by false z r =
        rw (turn_mk q w b block i (c + 1))
        (r (turn_at q w block i (c + 1)) (bookmark.turn_at q (mk w b) block i (c + 1)).mark
        (turn_agree q w b block i c fe u refl (node_at w c i u h) (eqb-false (at w.full.stack i) fe z) a h)
        (turn_fresh q w block i c u refl h))

-- ---- 4.9 to 4.19

same_finished : (w : Inner) (v : bookmark.Inner) (fe block ancestor u : ℕ) → fe ≤ u → Ends w v fe u → bookmark.finished v fe block ancestor ≡ finished w fe block ancestor
unfolding bookmark.finished finished mk
same_finished w v fe block ancestor u k x =
    rw (x.same_as, same_relisted x.mark w.full.list fe w.mark u (w.full.nodes.used + 1) x.whole k x.agree)

known : (s : Places) (i fe n : ℕ) → at s i ≡ fe → get_or s.held i 0 ≤ n → fe ≤ n
unfolding at
known s i fe n e h = rw (← e) h

pub same_adopted : (f : Full) (fe s j b k : ℕ) → Firm f.stack f.list f.nodes.used (suc k) → place_of f.list fe ≡ Some j → at f.stack s ≡ fe
    → s < length f.stack.held → b < length f.stack.held → bookmark.adopted f fe s b ≡ adopted f fe s j b
unfolding bookmark.adopted adopted bookmark.started started mk Good node_of
same_adopted f fe s j b k x e g h l =
    same_finished (inner (started f (at f.stack b) j) fe (at f.stack b) 0 b) (bookmark.inner (bookmark.started f fe (at f.stack b)) fe (at f.stack b) 0 b)
    fe (at f.stack b) (at f.stack (s - 1)) f.nodes.used
    (known f.stack s fe f.nodes.used g (x.used s h))
    (inner_agree b 0 (started f (at f.stack b) j) (Replace (node fe)) fe (at f.stack b) f.nodes.used
    (record { place = j; last = place_last f.list fe j e; next = refl; good = refl })
    (record {
      walk = record { held = firm_held f.stack f.list f.nodes.used (suc k) x; deep = omega arith };
      met = λ i lt. x.used i (omega arith);
      room = omega (arith, x.room);
      old = omega arith;
    }))

-- .. for the formatting element and the furthest block that a round finds
pub same_round : (f : Full) (name s j b k : ℕ) → Firm f.stack f.list f.nodes.used (suc k) → entry_of f.nodes.mem f.list name ≡ Some j
    → place_of f.stack (at f.list j) ≡ Some s → furthest_of f.nodes.mem f.stack s ≡ Some b → bookmark.adopted f (at f.list j) s b ≡ adopted f (at f.list j) s j b
same_round f name s j b k x e g h =
    let lt : s < length f.stack.held = (place_last f.stack (at f.list j) s g).below in
    same_adopted f (at f.list j) s j b k x
    (entry_last f.nodes.mem f.list name j e)
    (place_at f.stack (at f.list j) s g)
    lt
    (furthest_lt f.nodes.mem f.stack s b h)
