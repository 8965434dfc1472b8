-- A tree walked down from a node: what is met is the node and all that is below it, and each of them is met once.
-- The tree is given twice, by `up`, which leads from a node to the one above it, and by `under`, the nodes right below a node in order.
-- Assumes nothing.
use Rattle.std.proofs.Common.{ℕ, zero, suc, ◌≤◌, ◌<◌, sym, ◌∙◌, arith, inl, inr, List, [], ◌∷◌, ◌++◌}
use Rattle.std.specs.Prelude.{◌≡◌, refl, ◌≢◌, ◌⊎◌}
use Rattle.theory.specs.Fn.{In}
use Rattle.theory.specs.Ord.{Ord, Out}
use Rattle.theory.specs.Natural.{Steps, Anc, near, far, alive, lower}
use Rattle.theory.specs.Anc.{Reach, reach_trans}
use Rattle.theory.specs.Kids.{in_left, in_right, in_split}
use Rattle.theory.specs.Pigeon.{Once, out_of}
use Rattle.theory.specs.Count.{once_join}

-- what f gives for each of xs, one behind the other
unfoldable pub each : (ℕ → List ℕ) → List ℕ → List ℕ
each f [] = []
each f (x ∷ xs) = f x ++ each f xs

-- n, and behind it all that is below it, going down fewer than k times
unfoldable pub down : (ℕ → List ℕ) → ℕ → ℕ → List ℕ
down under zero n = []
down under (suc k) n = n ∷ each (down under k) (under n)

-- the two tell of the same tree, on the nodes 1 to c
pub record Agrees (up : ℕ → ℕ) (c : ℕ) (under : ℕ → List ℕ) : Type 0 where
  pub child : (p x : ℕ) → 0 < p → p ≤ c → In x (under p) → (0 < x) × (x ≤ c) × (up x ≡ p)
  pub own : (x : ℕ) → 0 < x → x ≤ c → up x ≢ 0 → In x (under (up x))
  pub once : (p : ℕ) → 0 < p → p ≤ c → Once (under p)

-- ---- lists

in_each : (f : ℕ → List ℕ) (ys : List ℕ) (x : ℕ) → In x (each f ys) → (y : ℕ) × In y ys × In x (f y)
unfolding each
in_each f [] x i = absurd i
in_each f (y ∷ ys) x i = by (in_split x (f y) (each f ys) i) (in_each f ys x)
  where
    by : In x (f y) ⊎ In x (each f ys) → (In x (each f ys) → (z : ℕ) × In z ys × In x (f z)) → (z : ℕ) × In z (y ∷ ys) × In x (f z)
    by (inl a) r = (y, inl refl, a)
    by (inr a) r = let t = r a in (t.0, inr t.1, t.2)

each_in : (f : ℕ → List ℕ) (ys : List ℕ) (x y : ℕ) → In y ys → In x (f y) → In x (each f ys)
unfolding each
each_in f [] x y x4 i = elim x4 [ ]
each_in f (z ∷ ys) x y (inl e) i = in_left x (f z) (each f ys) (rw e at i)
each_in f (z ∷ ys) x y (inr a) i = in_right x (f z) (each f ys) (each_in f ys x y a i)

out_in : (y z : ℕ) (ys : List ℕ) → Out y ys → In z ys → z ≢ y
out_in y z [] o x'' = elim x'' [ ]
out_in y z (x ∷ ys) o (inl e) = rw e o.0
out_in y z (x ∷ ys) o (inr i) = out_in y z ys o.1 i

-- ---- going up

-- of two nodes above a third, one is above the other
above_both : {up : ℕ → ℕ} {y z x : ℕ} → Anc up y x → Anc up z x → Reach up y z ⊎ Reach up z y
above_both (near a b e) (near g h i) = inl (inl (sym e ∙ i))
above_both (near a b e) (far g h) = inr (inr (rw e at h))
above_both (far a h) (near g i e) = inl (inr (rw e at h))
above_both (far a h) (far g i) = above_both h i

reach_both : {up : ℕ → ℕ} {y z x : ℕ} → Reach up y x → Reach up z x → Reach up y z ⊎ Reach up z y
reach_both (inl e) r = inr (rw e r)
reach_both (inr h) (inl e) = inl (inr (rw e h))
reach_both (inr h) (inr i) = above_both h i

module _ {up : ℕ → ℕ} {c : ℕ} {stk : List ℕ} {under : ℕ → List ℕ} (o : Ord up c stk) (w : Agrees up c under) where
  -- the node above one that is below it, or the same
  over : {n y x : ℕ} → n ≢ 0 → y ≢ 0 → up y ≡ n → Reach up y x → Anc up n x
  over {n} {y} nz yz e (inl d) = let a : Anc up n y = near yz nz e in rw d at a
  over nz yz e (inr h) = reach_trans nz (inr (near yz nz e)) h

  -- no node is above itself
  pub not_own : {n : ℕ} → n ≤ c → ¬ Anc up n n
  not_own h a = omega (arith, lower o a h)

  -- of two nodes right below another none is above the other
  beside : {n y z : ℕ} → 0 < y → y ≤ c → 0 < z → z ≤ c → n ≢ 0 → up y ≡ n → up z ≡ n → y ≢ z → ¬ Reach up y z
  beside {n} {y} yz yc zz zc nz e g d (inl q) = d q
  beside {n} {y} yz yc zz zc nz e g d (inr (near a b q)) =
      let t = o.rise y yz yc (rw e nz) in
      let same : y ≡ n = sym q ∙ g in
      omega (arith, rw (e, same) at t)
  beside {n} {y} yz yc zz zc nz e g d (inr (far a h)) =
      let t = rw e at (o.rise y yz yc (rw e nz)) in
      let s = lower o (rw g at h) (rw g at (o.used _ zz zc)) in
      omega arith

  apart : {n y z x : ℕ} → 0 < y → y ≤ c → 0 < z → z ≤ c → n ≢ 0 → up y ≡ n → up z ≡ n → y ≢ z → Reach up y x → Reach up z x → ⊥
  apart {n} {y} {z} yz yc zz zc nz e g d a b = by (reach_both a b)
    where
      by : Reach up y z ⊎ Reach up z y → ⊥
      by (inl r) = beside yz yc zz zc nz e g d r
      by (inr r) = beside zz zc yz yc nz g e (λ q. d (sym q)) r

  -- ---- going down

  -- what is met is the node or below it
  pub met_below : (k n x : ℕ) → 0 < n → n ≤ c → In x (down under k n) → (0 < x) × (x ≤ c) × Reach up n x
  unfolding down
  met_below zero n x z h i = absurd i
  met_below (suc k) n x z h (inl e) = rw e (z, h, inl refl)
  met_below (suc k) n x z h (inr i) =
      let t = in_each (down under k) (under n) x i in
      let g = w.child n t.0 z h t.1 in
      let r = met_below k t.0 x g.0 g.1 t.2 in
      (r.0, r.1, inr (over (omega arith) (omega (arith, g.0)) g.2 r.2))

  once_each : (k n : ℕ) → 0 < n → n ≤ c → (ys : List ℕ) → ((y : ℕ) → In y ys → In y (under n)) → Once ys
      → ((y : ℕ) → 0 < y → y ≤ c → Once (down under k y)) → Once (each (down under k) ys)
  unfolding each
  once_each k n z h [] g d f = tt
  once_each k n z h (y ∷ ys) g d f =
      let a = w.child n y z h (g y (inl refl)) in
      once_join (down under k y) (each (down under k) ys) (f y a.0 a.1) (once_each k n z h ys (λ x i. g x (inr i)) d.1 f)
      (λ x i.
      out_of x (each (down under k) ys)
      (λ j.
      let t = in_each (down under k) ys x j in
      let b = w.child n t.0 z h (g t.0 (inr t.1)) in
      apart a.0 a.1 b.0 b.1 (omega arith) a.2 b.2 (λ e. out_in y t.0 ys d.0 t.1 (sym e))
      (met_below k y x a.0 a.1 i).2 (met_below k t.0 x b.0 b.1 t.2).2))

  -- and is met once
  pub down_once : (k n : ℕ) → 0 < n → n ≤ c → Once (down under k n)
  unfolding down
  down_once zero n z h = tt
  down_once (suc k) n z h = (
    out_of n (each (down under k) (under n)) (λ i. back (in_each (down under k) (under n) n i)),
    once_each k n z h (under n) (λ y i. i) (w.once n z h) (λ y a b. down_once k y a b),
  )
    where
      back : (y : ℕ) × In y (under n) × In n (down under k y) → ⊥
      back t =
          let g = w.child n t.0 z h t.1 in
          not_own h (over (omega arith) (omega (arith, g.0)) g.2 (met_below k t.0 n g.0 g.1 t.2).2)

  -- what is right below a node that is met is met
  grow : (k n p x : ℕ) → In p (down under k n) → In x (under p) → In x (down under (suc k) n)
  unfolding down
  grow zero n p x i j = absurd i
  grow (suc k) n p x (inl e) j = inr (each_in (down under (suc k)) (under n) x x (rw e at j) (inl refl))
  grow (suc k) n p x (inr i) j =
      let t = in_each (down under k) (under n) p i in
      inr (each_in (down under (suc k)) (under n) x t.0 t.1 (grow k t.0 p x t.2 j))

  -- so all that is below it is
  pub all_met : (k n x : ℕ) → Steps up k x → 0 < n → 0 < x → x ≤ c → Reach up n x → In x (down under k n)
  unfolding down
  all_met zero n x s nz z h r = absurd (omega (arith, s))
  all_met (suc k) n x (inl e) nz z h r = absurd (omega (arith, e))
  all_met (suc k) n x (inr s) nz z h (inl e) = inl (sym e)
  all_met (suc k) n x (inr s) nz z h (inr a) = by (above a) (all_met k n (up x) s nz)
    where
      above : Anc up n x → Reach up n (up x)
      above (near g b e) = inl (sym e)
      above (far g b) = inr b

      some : Reach up n (up x) → up x ≢ 0
      some (inl e) d = omega arith
      some (inr b) d = alive b d

      by : Reach up n (up x) → (0 < up x → up x ≤ c → Reach up n (up x) → In (up x) (down under k n)) → In x (down under (suc k) n)
      by r f =
          let d = some r in
          grow k n (up x) x (f (omega arith) (o.used x z h) r) (w.own x z h d)
