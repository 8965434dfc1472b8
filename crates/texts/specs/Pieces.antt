-- Chains of numbers by `next`, and marks on those met. Assumes nothing.
use Rattle.std.specs.Prelude.{◌≡◌, refl, ◌≢◌, ◌⊎◌, List, [], ◌∷◌, ◌++◌, ℕ, ◌+◌, ◌≤◌, ◌<◌, length, set}
use Rattle.std.proofs.Common.{sym, ap, ◌∙◌, inl, inr, append-nil, arith, length-set, length-append}
use Rattle.std.proofs.Math.Decide.{ℕ_discrete}
use Rattle.theory.specs.Fn.{at, In, Upd, upd_set}
use Rattle.theory.specs.Path.{Path, path_snoc, path_split, lst_snoc, in_out}
use Rattle.theory.specs.Ord.{Out}
use Rattle.theory.specs.Kids.{lst, in_left, in_right, in_split}
use Rattle.theory.specs.Pigeon.{Once, Within, pigeon}
use Rattle.theory.specs.Count.{once_join, within_join}

pub once_part : (xs ys : List ℕ) → Once (xs ++ ys) → Once xs × Once ys × ((x : ℕ) → In x xs → In x ys → ⊥)
once_part [] ys o = (tt, o, λ x i j. absurd i)
once_part (x ∷ xs) ys o =
    let t = once_part xs ys o.1 in
    ((left x xs o.0, t.0), t.1, λ z i j. apart z i j t.2)
  where
    left : (x : ℕ) (xs : List ℕ) → Out x (xs ++ ys) → Out x xs
    left x [] o = tt
    left x (y ∷ xs) o = (o.0, left x xs o.1)

    apart : (z : ℕ) → In z (x ∷ xs) → In z ys → ((x : ℕ) → In x xs → In x ys → ⊥) → ⊥
    apart z (inl e) j f = in_out x (xs ++ ys) (in_right x xs ys (rw e at j)) o.0
    apart z (inr i) j f = f z i j

pub within_part : (u : ℕ) (xs ys : List ℕ) → Within u (xs ++ ys) → Within u xs × Within u ys
within_part u [] ys w = (tt, w)
within_part u (x ∷ xs) ys w = let t = within_part u xs ys w.2 in ((w.0, w.1, t.0), t.1)

pub within_in : (u x : ℕ) (xs : List ℕ) → Within u xs → In x xs → (0 < x) × (x ≤ u)
within_in u x [] w x3 = elim x3 [ ]
within_in u x (y ∷ xs) w (inl e) = rw e (w.0, w.1)
within_in u x (y ∷ xs) w (inr i) = within_in u x xs w.2 i

-- xs is marked in seen, and else nothing that was not in seen₀
pub record Marks (seen₀ seen : List ℕ) (xs : List ℕ) : Type 0 where
  pub long : length seen ≡ length seen₀
  pub kept : (p : ℕ) → at seen₀ p ≢ 0 → at seen p ≢ 0
  pub new : (p : ℕ) → In p xs → at seen p ≢ 0
  pub only : (p : ℕ) → at seen p ≢ 0 → (at seen₀ p ≢ 0) ⊎ In p xs

pub marks_none : (seen : List ℕ) → Marks seen seen []
marks_none seen = record { long = refl; kept = λ p h. h; new = λ p i. absurd i; only = λ p h. inl h }

-- from x one has met xs, k of them, l the last, none of them marked before and all of them marked now, and comes to y
pub record Met (f : ℕ → ℕ) (seen₀ seen : List ℕ) (u x y l k : ℕ) : Type 0 where
  pub xs : List ℕ
  pub path : Path f x xs y
  pub size : length xs ≡ k
  pub last : lst 0 xs ≡ l
  pub once : Once xs
  pub within : Within u xs
  pub fresh : (p : ℕ) → In p xs → at seen₀ p ≡ 0
  pub marks : Marks seen₀ seen xs

-- that there is no such list from x to the end
pub record Unmet (f : ℕ → ℕ) (seen : List ℕ) (u x e : ℕ) : Type 0 where
  pub no : (xs : List ℕ) → xs ≢ [] → Path f x xs 0 → lst 0 xs ≡ e → Once xs → Within u xs → ((p : ℕ) → In p xs → at seen p ≡ 0) → ⊥

pub met_none : (f : ℕ → ℕ) (seen : List ℕ) (u x : ℕ) → Met f seen seen u x x 0 0
met_none f seen u x =
    record { xs = []; path = refl; size = refl; last = refl; once = tt; within = tt; fresh = λ p i. absurd i; marks = marks_none seen }

module _ {f : ℕ → ℕ} {seen₀ seen : List ℕ} {u x y l k : ℕ} (g : Met f seen₀ seen u x y l k) where
  pub met_few : k ≤ u
  met_few = omega (arith, g.size, pigeon u g.xs g.once g.within)

  pub met_more : y ≢ 0 → y ≤ u → at seen y ≡ 0 → u < length seen → Met f seen₀ (set seen y 1) u x (f y) y (k + 1)
  met_more z le o h =
      record {
        xs = g.xs ++ y ∷ [];
        path = path_snoc f x g.xs y z g.path;
        size = length-append g.xs (y ∷ []) ∙ omega (arith, g.size);
        last = lst_snoc 0 g.xs y;
        once = once_join g.xs (y ∷ []) g.once (tt, tt) (λ p i. (λ e. g.marks.new p i (rw e at o), tt));
        within = within_join u g.xs (y ∷ []) g.within (omega arith, le, tt);
        fresh = λ p i. fresh p (in_split p g.xs (y ∷ []) i);
        marks =
            record {
              long = length-set seen y 1 ∙ g.marks.long;
              kept = λ p q. set_kept p (g.marks.kept p q) (ℕ_discrete p y);
              new = λ p i. new p (in_split p g.xs (y ∷ []) i);
              only = λ p q. only p q (ℕ_discrete p y);
            };
      }
    where
      c : Upd (at seen) (at (set seen y 1)) y 1
      c = upd_set seen y 1 (omega arith)

      set_kept : (p : ℕ) → at seen p ≢ 0 → Dec (p ≡ y) → at (set seen y 1) p ≢ 0
      set_kept p q (yes e) = rw (e, c.new) (λ w. omega arith)
      set_kept p q (no e) = rw (c.old p e) q

      before : Dec (at seen₀ y ≡ 0) → at seen₀ y ≡ 0
      before (yes e) = e
      before (no e) = absurd (g.marks.kept y e o)

      fresh : (p : ℕ) → In p g.xs ⊎ In p (y ∷ []) → at seen₀ p ≡ 0
      fresh p (inl i) = g.fresh p i
      fresh p (inr (inr x3)) = elim x3 [ ]
      fresh p (inr (inl e)) = rw e (before (ℕ_discrete (at seen₀ y) 0))

      new : (p : ℕ) → In p g.xs ⊎ In p (y ∷ []) → at (set seen y 1) p ≢ 0
      new p (inl i) = set_kept p (g.marks.new p i) (ℕ_discrete p y)
      new p (inr (inr x3)) = elim x3 [ ]
      new p (inr (inl e)) = rw (e, c.new) (λ w. omega arith)

      only : (p : ℕ) → at (set seen y 1) p ≢ 0 → Dec (p ≡ y) → (at seen₀ p ≢ 0) ⊎ In p (g.xs ++ y ∷ [])
      only p q (yes e) = inr (in_right p g.xs (y ∷ []) (inl e))
      only p q (no e) = wide p (g.marks.only p (rw (c.old p e) at q))
        where
          wide : (p : ℕ) → (at seen₀ p ≢ 0) ⊎ In p g.xs → (at seen₀ p ≢ 0) ⊎ In p (g.xs ++ y ∷ [])
          wide p (inl a) = inl a
          wide p (inr i) = inr (in_left p g.xs (y ∷ []) i)

  -- the rest of a list that ends begins with y
  head_in : (ws : List ℕ) → y ≢ 0 → Path f y ws 0 → In y ws
  head_in [] z p = absurd (z p)
  head_in (w ∷ ws) z p = inl p.0

  pub deny_far : {e : ℕ} → y ≢ 0 → u < y → Unmet f seen₀ u x e
  deny_far z h =
      record {
        no = λ ys ne p la o w fr.
            let t = path_split f x ys g.xs y p g.path in
            let i = head_in t.0 z t.2 in
            let q = within_in u y ys w (rw t.1 (in_right y g.xs t.0 i)) in
            omega arith;
      }

  pub deny_seen : {e : ℕ} → y ≢ 0 → at seen y ≢ 0 → Unmet f seen₀ u x e
  deny_seen z h =
      record {
        no = λ ys ne p la o w fr.
            let t = path_split f x ys g.xs y p g.path in
            let i = head_in t.0 z t.2 in
            by t.0 i (rw t.1 at o) (fr y (rw t.1 (in_right y g.xs t.0 i))) (g.marks.only y h);
      }
    where
      by : (ws : List ℕ) → In y ws → Once (g.xs ++ ws) → at seen₀ y ≡ 0 → (at seen₀ y ≢ 0) ⊎ In y g.xs → ⊥
      by ws i o e (inl a) = a e
      by ws i o e (inr j) = (once_part g.xs ws o).2 y j i

  -- at the end all was met
  all_met : (ys : List ℕ) → y ≡ 0 → Path f x ys 0 → ys ≡ g.xs
  all_met ys z p =
      let t = path_split f x ys g.xs y p g.path in
      t.1 ∙ ap (λ (a : List ℕ). g.xs ++ a) (nil t.0 t.2) ∙ append-nil g.xs
    where
      nil : (ws : List ℕ) → Path f y ws 0 → ws ≡ []
      nil [] p = refl
      nil (w ∷ ws) p = absurd (p.1 (sym p.0 ∙ z))

  pub deny_last : {e : ℕ} → y ≡ 0 → l ≢ e → Unmet f seen₀ u x e
  deny_last z h = record { no = λ ys ne p la o w fr. h (sym g.last ∙ ap (lst 0) (sym (all_met ys z p)) ∙ la) }

  pub deny_none : {e : ℕ} → y ≡ 0 → k ≡ 0 → Unmet f seen₀ u x e
  deny_none z h = record { no = λ ys ne p la o w fr. ne (all_met ys z p ∙ nil g.xs (g.size ∙ h)) }
    where
      nil : (ws : List ℕ) → length ws ≡ 0 → ws ≡ []
      nil [] e = refl
      nil (w ∷ ws) e = absurd (omega arith)
