-- The attribute pairs of a new element: stored past the used ones they leave the old ones as they were, and where the test allowed
-- them each has a known name, and no two the same.
-- Assumes nothing.
use Rattle.std.specs.Prelude.{ℕ, zero, suc, ◌+◌, ◌≤◌, ◌<◌, ◌≡◌, refl, ◌≢◌, true, false, not, List, [], ◌∷◌, ◌++◌, length, eqb, Option}
use Rattle.std.proofs.Common.{sym, ap, ◌∙◌, arith}
use Rattle.std.proofs.Math.Decide.{ℕ_discrete, dec_lt}
use Rattle.std.proofs.lemmas.Bool.{eqb-false, not-true}
use Rattle.names.specs.Numbers.{is_name}
use Rattle.names.specs.Sets.{member}
use Rattle.lent.specs.Mem.{PAIRS, slots}
use Rattle.lent.proofs.Kit.{reads, length_store}
use Rattle.makers.specs.Make.{pair}
use Rattle.records.specs.Pair.{pair_next}
use Rattle.nodes.specs.Nodes.{name_of, Distinct}
use Rattle.state.specs.declared.Context.{Context}
use Rattle.sound.specs.Sound.{Sound}
use Rattle.standard.specs.Pairs.{pairs_in, fine, stored}
use Rattle.kept.specs.Room.{held_in, slots_pairs}
use Rattle.kept.specs.Keeps.{and_true, or_false}
use Rattle.kept.specs.Same.{changed}

pub length_pairs : (s : List ℕ) (i k : ℕ) → length (pairs_in s i k) ≡ k
unfolding pairs_in
length_pairs s i zero = refl
length_pairs s i (suc k) = ap suc (length_pairs s (pair_next s i) k)

-- ---- one pair

module _ (q : List ℕ) (i name value : ℕ) where
  length_pair : length (pair q i name value) ≡ length q
  unfolding pair
  length_pair = simp length_store

  slots_pair : slots PAIRS (pair q i name value) ≡ slots PAIRS q
  unfolding slots
  slots_pair = rw length_pair

  pair_same : i < slots PAIRS q → name_of (pair q i name value) i ≡ name
  unfolding pair
  pair_same h = let e = held_in PAIRS q i h in simp (reads, e)

  pair_other : (n : ℕ) → n ≢ i → name_of (pair q i name value) n ≡ name_of q n
  unfolding pair
  pair_other n d = simp reads

-- ---- all of them

pub length_stored : (q : List ℕ) (u : ℕ) (ps : List (ℕ × ℕ)) → length (stored q u ps) ≡ length q
unfolding stored
length_stored q u [] = refl
length_stored q u (x ∷ ps) = length_stored (pair q u x.0 x.1) (u + 1) ps ∙ length_pair q u x.0 x.1

-- the ones before stay
pub stored_before : (q : List ℕ) (u : ℕ) (ps : List (ℕ × ℕ)) (i : ℕ) → i < u → name_of (stored q u ps) i ≡ name_of q i
unfolding stored
stored_before q u [] i h = refl
stored_before q u (x ∷ ps) i h =
    stored_before (pair q u x.0 x.1) (u + 1) ps i (omega arith) ∙ pair_other q u x.0 x.1 i (omega arith)

-- the first of them
stored_first : (q : List ℕ) (u : ℕ) (x : ℕ × ℕ) (ps : List (ℕ × ℕ)) → u < slots PAIRS q → name_of (stored q u (x ∷ ps)) u ≡ x.0
unfolding stored
stored_first q u x ps h = stored_before (pair q u x.0 x.1) (u + 1) ps u (omega arith) ∙ pair_same q u x.0 x.1 h

-- a name is not among those of a list and not y
not_member : (n y : ℕ) (xs : List ℕ) → member n (xs ++ y ∷ []) ≡ false → (member n xs ≡ false) × (n ≢ y)
not_member n y [] e = (refl, eqb-false n y (or_false (eqb n y) false e).0)
not_member n y (x ∷ xs) e =
    let a = or_false (eqb n x) (member n (xs ++ y ∷ [])) e in
    let b = not_member n y xs a.1 in
    (rw a.0 b.0, b.1)

-- what the test says of the first, and of the rest
pub record Fine (earlier : List ℕ) (x : ℕ × ℕ) (ps : List (ℕ × ℕ)) : Type 0 where
  pub known : is_name x.0 ≡ true
  pub new : member x.0 earlier ≡ false
  pub rest : fine (earlier ++ x.0 ∷ []) ps ≡ true

fine_parts : (earlier : List ℕ) (x : ℕ × ℕ) (ps : List (ℕ × ℕ)) → fine earlier (x ∷ ps) ≡ true → Fine earlier x ps
unfolding fine
fine_parts earlier x ps e =
    let a = and_true (is_name x.0) _ e in
    let b = and_true (not (member x.0 earlier)) _ a.1 in
    record { known = a.0; new = not-true (member x.0 earlier) b.0; rest = b.1 }

-- each has a known name, which is not among the earlier ones
pub record Good (earlier : List ℕ) (n : ℕ) : Type 0 where
  pub known : is_name n ≡ true
  pub new : member n earlier ≡ false

pub stored_good : (q : List ℕ) (u : ℕ) (ps : List (ℕ × ℕ)) (earlier : List ℕ) → fine earlier ps ≡ true → u + length ps ≤ slots PAIRS q
    → (i : ℕ) → u ≤ i → i < u + length ps → Good earlier (name_of (stored q u ps) i)
unfolding stored
stored_good q u [] earlier e h i a b = absurd (omega arith)
stored_good q u (x ∷ ps) earlier e h i a b =
    let t = fine_parts earlier x ps e in
    by (ℕ_discrete i u) (stored_good (pair q u x.0 x.1) (u + 1) ps (earlier ++ x.0 ∷ []) t.rest (rw (slots_pair q u x.0 x.1) (omega arith)) i)
  where
    by : Dec (i ≡ u) → (u + 1 ≤ i → i < u + 1 + length ps → Good (earlier ++ x.0 ∷ []) (name_of (stored q u (x ∷ ps)) i)) → Good earlier (name_of (stored q u (x ∷ ps)) i)
    by (yes d) g =
        let t = fine_parts earlier x ps e in
        rw (d, stored_first q u x ps (omega arith)) (record { known = t.known; new = t.new })
    by (no d) g =
        let r = g (omega arith) (omega arith) in
        record { known = r.known; new = (not_member (name_of (stored q u (x ∷ ps)) i) x.0 earlier r.new).0 }

pub stored_apart : (q : List ℕ) (u : ℕ) (ps : List (ℕ × ℕ)) (earlier : List ℕ) → fine earlier ps ≡ true → u + length ps ≤ slots PAIRS q
    → (i j : ℕ) → u ≤ i → i < j → j < u + length ps → name_of (stored q u ps) i ≢ name_of (stored q u ps) j
unfolding stored
stored_apart q u [] earlier e h i j a b d = absurd (omega arith)
stored_apart q u (x ∷ ps) earlier e h i j a b d =
    let t = fine_parts earlier x ps e in
    let h' : u + 1 + length ps ≤ slots PAIRS (pair q u x.0 x.1) = rw (slots_pair q u x.0 x.1) (omega arith) in
    by (ℕ_discrete i u)
    (stored_good (pair q u x.0 x.1) (u + 1) ps (earlier ++ x.0 ∷ []) t.rest h' j (omega arith) (omega arith))
    (stored_apart (pair q u x.0 x.1) (u + 1) ps (earlier ++ x.0 ∷ []) t.rest h' i j)
  where
    by : Dec (i ≡ u) → Good (earlier ++ x.0 ∷ []) (name_of (stored q u (x ∷ ps)) j)
        → (u + 1 ≤ i → i < j → j < u + 1 + length ps → name_of (stored q u (x ∷ ps)) i ≢ name_of (stored q u (x ∷ ps)) j)
        → name_of (stored q u (x ∷ ps)) i ≢ name_of (stored q u (x ∷ ps)) j
    by (yes r) g k z =
        (not_member (name_of (stored q u (x ∷ ps)) j) x.0 earlier g.new).1
        (sym z ∙ ap (λ (y : ℕ). name_of (stored q u (x ∷ ps)) y) r ∙ stored_first q u x ps (omega arith))
    by (no r) g k z = k (omega arith) b (omega arith) z

-- ---- a sound state

module _ {m p q l f t : List ℕ} {c v u d k s foster head : ℕ} {x : Option Context} (o : Sound m p q l f t c v u d k s foster head x)
    (ps : List (ℕ × ℕ)) (ok : fine [] ps ≡ true) (room : u + length ps ≤ slots PAIRS q) where
  pub stored_distinct : Distinct (stored q u ps) u (length ps)
  stored_distinct =
      record { apart = λ i j a b. stored_apart q u ps [] ok room (u + i) (u + j) (omega arith) (omega arith) (omega arith) }

  pub stored_sound : Sound m p (stored q u ps) l f t c v (u + length ps) d k s foster head x
  stored_sound =
      let g = slots_pairs q (u + length ps) room in
      changed o
      (record {
        sizes = record { nodes = o.sizes.nodes; pieces = o.sizes.pieces; pairs = (g.0, rw (length_stored q u ps) g.1) };
        more = omega arith;
        longer = omega arith;
        same = record { kind = λ y z h. refl; rest = λ y n z h i j. refl; end = λ y z h e. refl };
        links = λ y z h. record { loose = λ g. refl; root = λ g r. r; leaf = λ g. (refl, refl) };
        root = refl;
        names = record { same = λ i h. stored_before q u ps i h };
        children = o.tree.children;
        kinds = λ y a b. absurd (omega arith);
        known = record { name = λ i h. name i h (dec_lt i u) };
        order = o.tree.order;
        texts = o.texts;
      })
    where
      name : (i : ℕ) → i < u + length ps → Dec (i < u) → is_name (name_of (stored q u ps) i) ≡ true
      name i h (yes a) = rw (stored_before q u ps i a) (o.tree.names.name i a)
      name i h (no a) = (stored_good q u ps [] ok room i (omega arith) h).known
