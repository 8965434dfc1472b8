-- Children as lists: the five links of each node agree with a family of lists, and each change of the links is a change of one or two lists.
-- Assumes nothing.
use Rattle.std.specs.Prelude.{◌≡◌, refl, ◌≢◌, ◌⊎◌, ℕ, suc, ◌≤◌, ◌<◌, List, [], ◌∷◌, ◌++◌}
use Rattle.std.proofs.Common.{sym, ap, ◌∙◌, inl, inr, ⊎_elim, lt_irrefl, le_refl, arith, subst}
use Rattle.std.proofs.Math.Logic.{⊎_map}
use Rattle.std.proofs.Math.Decide.{ℕ_discrete, dec_lt}
use Rattle.std.proofs.Math.Seq.{append_snoc}
use Rattle.theory.specs.Fn.{In}

pub record Mem : Type 0 where
  pub par : ℕ → ℕ
  pub first : ℕ → ℕ
  pub last : ℕ → ℕ
  pub next : ℕ → ℕ
  pub prev : ℕ → ℕ

-- the first of xs, or r; the last of xs, or l
abbrev pub hd : List ℕ → ℕ → ℕ
hd [] r = r
hd (x ∷ xs) r = x

abbrev pub lst : ℕ → List ℕ → ℕ
lst l [] = l
lst l (x ∷ xs) = lst x xs

-- xs are children of p, linked both ways, between the neighbours l and r
abbrev pub Run : Mem → ℕ → ℕ → ℕ → List ℕ → ℕ → Type 0
Run m c p l [] r = Unit {0}
Run m c p l (x ∷ xs) r = (0 < x) × (x ≤ c) × (m.par x ≡ p) × (m.prev x ≡ l) × (m.next x ≡ hd xs r) × Run m c p x xs r

pub record Kids (m : Mem) (c : ℕ) (kids : ℕ → List ℕ) : Type 0 where
  pub run : (p : ℕ) → 0 < p → p ≤ c → Run m c p 0 (kids p) 0
  pub first : (p : ℕ) → 0 < p → p ≤ c → m.first p ≡ hd (kids p) 0
  pub last : (p : ℕ) → 0 < p → p ≤ c → m.last p ≡ lst 0 (kids p)
  pub own : (n : ℕ) → 0 < n → n ≤ c → m.par n ≢ 0 → In n (kids (m.par n))
  pub loose : (n : ℕ) → 0 < n → n ≤ c → m.par n ≡ 0 → (m.next n ≡ 0) × (m.prev n ≡ 0)

-- ---- lists

pub in_left : (x : ℕ) (xs ys : List ℕ) → In x xs → In x (xs ++ ys)
in_left x [] ys x'' = elim x'' [ ]
in_left x (y ∷ xs) ys (inl e) = inl e
in_left x (y ∷ xs) ys (inr h) = inr (in_left x xs ys h)

pub in_right : (x : ℕ) (xs ys : List ℕ) → In x ys → In x (xs ++ ys)
in_right x [] ys h = h
in_right x (y ∷ xs) ys h = inr (in_right x xs ys h)

pub in_split : (x : ℕ) (xs ys : List ℕ) → In x (xs ++ ys) → In x xs ⊎ In x ys
in_split x [] ys h = inr h
in_split x (y ∷ xs) ys (inl e) = inl (inl e)
in_split x (y ∷ xs) ys (inr h) = ⊎_map (λ i. inr i) (λ i. i) (in_split x xs ys h)

pub hd_app : (xs ys : List ℕ) (r : ℕ) → hd (xs ++ ys) r ≡ hd xs (hd ys r)
hd_app [] ys r = refl
hd_app (x ∷ xs) ys r = refl

pub lst_in : (x : ℕ) (xs : List ℕ) → In (lst x xs) (x ∷ xs)
lst_in x [] = inl refl
lst_in x (y ∷ xs) = inr (lst_in y xs)

-- ---- runs

module _ (m : Mem) (c p : ℕ) where
  pub run_join : (l : ℕ) (xs ys : List ℕ) (r : ℕ) → Run m c p l xs (hd ys r) → Run m c p (lst l xs) ys r → Run m c p l (xs ++ ys) r
  run_join l [] ys r h k = k
  run_join l (x ∷ xs) ys r h k = (h.0, h.1, h.2, h.3, h.4 ∙ sym (hd_app xs ys r), run_join x xs ys r h.5 k)

  pub run_part : (l : ℕ) (xs ys : List ℕ) (r : ℕ) → Run m c p l (xs ++ ys) r → Run m c p l xs (hd ys r) × Run m c p (lst l xs) ys r
  run_part l [] ys r h = (tt, h)
  run_part l (x ∷ xs) ys r h = let t = run_part x xs ys r h.5 in ((h.0, h.1, h.2, h.3, h.4 ∙ hd_app xs ys r, t.0), t.1)

  pub run_in : (l : ℕ) (xs : List ℕ) (r x : ℕ) → Run m c p l xs r → In x xs → (0 < x) × (x ≤ c) × (m.par x ≡ p)
  run_in l [] r x h x4 = elim x4 [ ]
  run_in l (y ∷ xs) r x h (inl e) = rw e (h.0, h.1, h.2)
  run_in l (y ∷ xs) r x h (inr i) = run_in y xs r x h.5 i

  run_prev : (l : ℕ) (xs : List ℕ) (r x : ℕ) → Run m c p l xs r → In x xs → In (m.prev x) (l ∷ xs)
  run_prev l [] r x h x4 = elim x4 [ ]
  run_prev l (y ∷ xs) r x h (inl e) = inl (ap m.prev e ∙ h.3)
  run_prev l (y ∷ xs) r x h (inr i) = inr (run_prev y xs r x h.5 i)

  -- no child twice
  pub run_once : (l x : ℕ) (xs : List ℕ) (r : ℕ) → ¬ In l (x ∷ xs) → Run m c p l (x ∷ xs) r → ¬ In x xs
  run_once l x xs r n h i = n (subst (λ (z : ℕ). In z (x ∷ xs)) h.3 (run_prev x xs r x h.5 i))

  pub run_apart : (l : ℕ) (xs ys : List ℕ) (r x : ℕ) → ¬ In l (xs ++ ys) → Run m c p l (xs ++ ys) r → In x xs → In x ys → ⊥
  run_apart l [] ys r x n h x6 j = elim x6 [ ]
  run_apart l (y ∷ xs) ys r x n h (inl e) j = run_once l y (xs ++ ys) r n h (in_right y xs ys (rw e at j))
  run_apart l (y ∷ xs) ys r x n h (inr i) j = run_apart y xs ys r x (run_once l y (xs ++ ys) r n h) h.5 i j

-- ---- the links change

module _ (m m' : Mem) (c c' p p' : ℕ) (le : c ≤ c') where
  -- elsewhere
  pub run_frame : (l : ℕ) (xs : List ℕ) (r : ℕ) → ((x : ℕ) → In x xs → (m'.par x ≡ p') × (m'.next x ≡ m.next x) × (m'.prev x ≡ m.prev x)) → Run m c p l xs r
      → Run m' c' p' l xs r
  run_frame l [] r f h = tt
  run_frame l (x ∷ xs) r f h =
      let t = f x (inl refl) in
      (h.0, omega arith, t.0, t.2 ∙ h.3, t.1 ∙ h.4, run_frame x xs r (λ y i. f y (inr i)) h.5)

  -- at the right end
  pub run_right : (l : ℕ) (xs : List ℕ) (r r' : ℕ) → ¬ In l xs → ((x : ℕ) → In x xs → (m'.par x ≡ p') × (m'.prev x ≡ m.prev x))
      → ((x : ℕ) → In x xs → x ≢ lst l xs → m'.next x ≡ m.next x) → (In (lst l xs) xs → m'.next (lst l xs) ≡ r') → Run m c p l xs r → Run m' c' p' l xs r'
  run_right l [] r r' n f g e h = tt
  run_right l (x ∷ []) r r' n f g e h = let t = f x (inl refl) in (h.0, omega arith, t.0, t.1 ∙ h.3, e (inl refl), tt)
  run_right l (x ∷ y ∷ xs) r r' n f g e h =
      let t = f x (inl refl) in
      let once = run_once m c p l x (y ∷ xs) r n h in (
        h.0,
        omega arith,
        t.0,
        t.1 ∙ h.3,
        g x (inl refl) (λ d. once (subst (λ (z : ℕ). In z (y ∷ xs)) (sym d) (lst_in y xs))) ∙ h.4,
        run_right x (y ∷ xs) r r' once (λ z i. f z (inr i)) (λ z i d. g z (inr i) d) (λ i. e (inr i)) h.5,
      )

  -- at the left end
  pub run_left : (l l' : ℕ) (xs : List ℕ) (r : ℕ) → ¬ In l xs → ((x : ℕ) → In x xs → (m'.par x ≡ p') × (m'.next x ≡ m.next x))
      → ((x : ℕ) → In x xs → x ≢ hd xs r → m'.prev x ≡ m.prev x) → (In (hd xs r) xs → m'.prev (hd xs r) ≡ l') → Run m c p l xs r → Run m' c' p' l' xs r
  run_left l l' [] r n f g e h = tt
  run_left l l' (x ∷ xs) r n f g e h =
      let t = f x (inl refl) in
      let once = run_once m c p l x xs r n h in (
        h.0,
        omega arith,
        t.0,
        e (inl refl),
        t.1 ∙ h.4,
        run_frame x xs r (λ y i. ((f y (inr i)).0, (f y (inr i)).1, g y (inr i) (λ d. once (subst (λ (z : ℕ). In z xs) d i)))) h.5,
      )

pub lst_or : (l : ℕ) (xs : List ℕ) → (lst l xs ≡ l) ⊎ In (lst l xs) xs
lst_or l [] = inl refl
lst_or l (x ∷ xs) = inr (lst_in x xs)

pub hd_or : (xs : List ℕ) (r : ℕ) → (hd xs r ≡ r) ⊎ In (hd xs r) xs
hd_or [] r = inl refl
hd_or (x ∷ xs) r = inr (inl refl)

-- one node x comes or goes between the children a and b of p; n is what stands between them afterwards: x or nothing
pub record Splice (m m' : Mem) (p x : ℕ) (a n b : List ℕ) : Type 0 where
  pub par : (y : ℕ) → y ≢ x → m'.par y ≡ m.par y
  pub next : (y : ℕ) → y ≢ x → y ≢ lst 0 a → m'.next y ≡ m.next y
  pub prev : (y : ℕ) → y ≢ x → y ≢ hd b 0 → m'.prev y ≡ m.prev y
  pub left : lst 0 a ≢ 0 → m'.next (lst 0 a) ≡ hd (n ++ b) 0
  pub right : hd b 0 ≢ 0 → m'.prev (hd b 0) ≡ lst (lst 0 a) n
  pub first : m'.first p ≡ hd (a ++ (n ++ b)) 0
  pub last : m'.last p ≡ lst 0 (a ++ (n ++ b))
  pub firsts : (q : ℕ) → q ≢ p → m'.first q ≡ m.first q
  pub lasts : (q : ℕ) → q ≢ p → m'.last q ≡ m.last q

-- the list of p changes, and no other
pub record Edit (kids kids' : ℕ → List ℕ) (p : ℕ) (old new : List ℕ) : Type 0 where
  pub was : kids p ≡ old
  pub is : kids' p ≡ new
  pub rest : (q : ℕ) → q ≢ p → kids' q ≡ kids q

module _ {m m' : Mem} {c : ℕ} {kids kids' : ℕ → List ℕ} (k : Kids m c kids) (p x : ℕ) (pz : 0 < p) (pc : p ≤ c) (a o n b : List ℕ)
    (e : Edit kids kids' p (a ++ (o ++ b)) (a ++ (n ++ b))) (s : Splice m m' p x a n b)
    (only : (y : ℕ) → In y o → y ≡ x) (xa : ¬ In x a) (xb : ¬ In x b) (home : (m.par x ≡ 0) ⊎ (m.par x ≡ p)) where
  old : Run m c p 0 (a ++ (o ++ b)) 0
  old = rw e.was at (k.run p pz pc)

  in_a : (y : ℕ) → In y a → (0 < y) × (y ≤ c) × (m.par y ≡ p)
  in_a y i = run_in m c p 0 (a ++ (o ++ b)) 0 y old (in_left y a (o ++ b) i)

  in_b : (y : ℕ) → In y b → (0 < y) × (y ≤ c) × (m.par y ≡ p)
  in_b y i = run_in m c p 0 (a ++ (o ++ b)) 0 y old (in_right y a (o ++ b) (in_right y o b i))

  not_zero : ¬ In 0 (a ++ (o ++ b))
  not_zero i = lt_irrefl 0 (run_in m c p 0 (a ++ (o ++ b)) 0 0 old i).0

  apart : (y : ℕ) → In y a → In y b → ⊥
  apart y i j = run_apart m c p 0 a (o ++ b) 0 y not_zero old i (in_right y o b j)

  -- the two neighbours are children of p
  at_left : (y : ℕ) → 0 < y → y ≡ lst 0 a → In y a
  at_left y z d = by (lst_or 0 a)
    where
      by : (lst 0 a ≡ 0) ⊎ In (lst 0 a) a → In y a
      by (inl q) = absurd (omega arith)
      by (inr i) = rw d i

  at_right : (y : ℕ) → 0 < y → y ≡ hd b 0 → In y b
  at_right y z d = by (hd_or b 0)
    where
      by : (hd b 0 ≡ 0) ⊎ In (hd b 0) b → In y b
      by (inl q) = absurd (omega arith)
      by (inr i) = rw d i

  new_a : Run m' c p 0 a (hd (n ++ b) 0)
  new_a =
      run_right m m' c c p p (le_refl c) 0 a (hd (o ++ b) 0) (hd (n ++ b) 0) (λ i. not_zero (in_left 0 a (o ++ b) i))
      (λ y i. (s.par y (λ d. xa (rw d at i)) ∙ (in_a y i).2, s.prev y (λ d. xa (rw d at i)) (λ d. apart y i (at_right y (in_a y i).0 d))))
      (λ y i d. s.next y (λ d. xa (rw d at i)) d)
      (λ i. s.left (let t = (in_a _ i).0 in omega arith))
      (run_part m c p 0 a (o ++ b) 0 old).0

  seam : ¬ In (lst (lst 0 a) o) b
  seam i = by (lst_or (lst 0 a) o)
    where
      by : (lst (lst 0 a) o ≡ lst 0 a) ⊎ In (lst (lst 0 a) o) o → ⊥
      by (inl q) = apart _ (at_left _ (in_b _ i).0 q) i
      by (inr j) = xb (rw (only _ j) at i)

  new_b : Run m' c p (lst (lst 0 a) n) b 0
  new_b =
      run_left m m' c c p p (le_refl c) (lst (lst 0 a) o) (lst (lst 0 a) n) b 0 seam
      (λ y i. (s.par y (λ d. xb (rw d at i)) ∙ (in_b y i).2, s.next y (λ d. xb (rw d at i)) (λ d. apart y (at_left y (in_b y i).0 d) i)))
      (λ y i d. s.prev y (λ d. xb (rw d at i)) d)
      (λ i. s.right (let t = (in_b _ i).0 in omega arith))
      (run_part m c p (lst 0 a) o b 0 (run_part m c p 0 a (o ++ b) 0 old).1).1

  zero_parent : (y : ℕ) → m.par y ≡ 0 → m.par y ≡ p → ⊥
  zero_parent y f g = omega arith

  -- a child of another node is none of those that change
  else_x : (q y : ℕ) → 0 < q → q ≢ p → m.par y ≡ q → y ≢ x
  else_x q y z d h g = by home
    where
      by : (m.par x ≡ 0) ⊎ (m.par x ≡ p) → ⊥
      by (inl w) = let t : q ≡ 0 = cc in omega arith
      by (inr w) = d (cc)

  new_q : (q : ℕ) → 0 < q → q ≤ c → q ≢ p → Run m' c q 0 (kids q) 0
  new_q q z l d = run_frame m m' c c q q (le_refl c) 0 (kids q) 0 each (k.run q z l)
    where
      each : (y : ℕ) → In y (kids q) → (m'.par y ≡ q) × (m'.next y ≡ m.next y) × (m'.prev y ≡ m.prev y)
      each y i =
          let t = run_in m c q 0 (kids q) 0 y (k.run q z l) i in
          let nx : y ≢ x = else_x q y z d t.2 in (
            s.par y nx ∙ t.2,
            s.next y nx (λ g. d (sym t.2 ∙ (in_a y (at_left y t.0 g)).2)),
            s.prev y nx (λ g. d (sym t.2 ∙ (in_b y (at_right y t.0 g)).2)),
          )

  -- what x is afterwards
  module _ (mid : Run m' c p (lst 0 a) n (hd b 0)) (ownx : m'.par x ≢ 0 → (m'.par x ≡ p) × In x n) (loosex : m'.par x ≡ 0 → (m'.next x ≡ 0) × (m'.prev x ≡ 0)) where
    stays : (y : ℕ) → y ≢ x → In y (a ++ (o ++ b)) → In y (a ++ (n ++ b))
    stays y d i = by (in_split y a (o ++ b) i)
      where
        by₂ : In y o ⊎ In y b → In y (a ++ (n ++ b))
        by₂ (inl j) = absurd (d (only y j))
        by₂ (inr j) = in_right y a (n ++ b) (in_right y n b j)

        by : In y a ⊎ In y (o ++ b) → In y (a ++ (n ++ b))
        by (inl j) = in_left y a (n ++ b) j
        by (inr j) = by₂ (in_split y o b j)

    pub edited : Kids m' c kids'
    edited = record { run = λ q z l. run q z l (ℕ_discrete q p); first = λ q z l. first q z l (ℕ_discrete q p); last = λ q z l. last q z l (ℕ_discrete q p); own = λ y z l h. own y z l h (ℕ_discrete y x); loose = λ y z l h. loose y z l h (ℕ_discrete y x) }
      where
        run : (q : ℕ) → 0 < q → q ≤ c → Dec (q ≡ p) → Run m' c q 0 (kids' q) 0
        run q z l (yes d) =
            rw (d, e.is) (run_join m' c p 0 a (n ++ b) 0 new_a (run_join m' c p (lst 0 a) n b 0 mid new_b))
        run q z l (no d) = rw (e.rest q d) (new_q q z l d)

        first : (q : ℕ) → 0 < q → q ≤ c → Dec (q ≡ p) → m'.first q ≡ hd (kids' q) 0
        first q z l (yes d) = rw (d, e.is) s.first
        first q z l (no d) = rw (e.rest q d) (s.firsts q d ∙ k.first q z l)

        last : (q : ℕ) → 0 < q → q ≤ c → Dec (q ≡ p) → m'.last q ≡ lst 0 (kids' q)
        last q z l (yes d) = rw (d, e.is) s.last
        last q z l (no d) = rw (e.rest q d) (s.lasts q d ∙ k.last q z l)

        own : (y : ℕ) → 0 < y → y ≤ c → m'.par y ≢ 0 → Dec (y ≡ x) → In y (kids' (m'.par y))
        own y z l h (yes d) =
            let t = ownx (rw d at h) in
            rw (d, t.0, e.is) (in_right x a (n ++ b) (in_left x n b t.1))
        own y z l h (no d) = rw (s.par y d) (by (ℕ_discrete (m.par y) p) (k.own y z l (rw (s.par y d) at h)))
          where
            by : Dec (m.par y ≡ p) → In y (kids (m.par y)) → In y (kids' (m.par y))
            by (yes g) i = rw (g, e.is) (stays y d (rw (g, e.was) at i))
            by (no g) i = rw (e.rest (m.par y) g) i

        loose : (y : ℕ) → 0 < y → y ≤ c → m'.par y ≡ 0 → Dec (y ≡ x) → (m'.next y ≡ 0) × (m'.prev y ≡ 0)
        loose y z l h (yes d) = rw d (loosex (rw d at h))
        loose y z l h (no d) =
            let g : m.par y ≡ 0 = sym (s.par y d) ∙ h in
            let t = k.loose y z l g in (
              s.next y d (λ f. zero_parent y g (in_a y (at_left y z f)).2) ∙ t.0,
              s.prev y d (λ f. zero_parent y g (in_b y (at_right y z f)).2) ∙ t.1,
            )

-- ---- the three changes of one node

-- a node that no list of p's holds, since it has no parent
parentless : (m : Mem) (c p x l : ℕ) (xs : List ℕ) (r : ℕ) → 0 < p → m.par x ≡ 0 → Run m c p l xs r → ¬ In x xs
parentless m c p x l xs r z h k i = let t = (run_in m c p l xs r x k i).2 in omega arith

-- x, which has no parent, goes between a and b. Append: b is empty
pub insert : {m m' : Mem} {c : ℕ} {kids kids' : ℕ → List ℕ} (k : Kids m c kids) (p x : ℕ) → 0 < p → p ≤ c → 0 < x → x ≤ c → (a b : List ℕ)
    → Edit kids kids' p (a ++ b) (a ++ x ∷ b) → Splice m m' p x a (x ∷ []) b → m.par x ≡ 0
    → m'.par x ≡ p → m'.prev x ≡ lst 0 a → m'.next x ≡ hd b 0 → Kids m' c kids'
insert {m} {m'} {c} k p x pz pc xz xc a b e s h hp hl hr =
    edited k p x pz pc a [] (x ∷ []) b e s (λ y i. absurd i) (λ i. no (in_left x a b i)) (λ i. no (in_right x a b i)) (inl h)
    (xz, xc, hp, hl, hr, tt) (λ _. (hp, inl refl)) (λ g. absurd (omega arith))
  where
    no : ¬ In x (a ++ b)
    no = parentless m c p x 0 (a ++ b) 0 pz h (rw e.was at (k.run p pz pc))

-- x goes from between a and b
pub without : {m m' : Mem} {c : ℕ} {kids kids' : ℕ → List ℕ} (k : Kids m c kids) (p x : ℕ) → 0 < p → p ≤ c → (a b : List ℕ)
    → Edit kids kids' p (a ++ x ∷ b) (a ++ b) → Splice m m' p x a [] b
    → m'.par x ≡ 0 → m'.prev x ≡ 0 → m'.next x ≡ 0 → Kids m' c kids'
without {m} {m'} {c} k p x pz pc a b e s hp hl hr =
    edited k p x pz pc a (x ∷ []) [] b e s (λ y i. ⊎_elim (λ d. d) (λ j. absurd j) i)
    (λ i. run_apart m c p 0 a (x ∷ b) 0 x no old i (inl refl))
    (λ i. run_apart m c p 0 (a ++ x ∷ []) b 0 x (rw append_snoc no) (rw append_snoc old) (in_right x a (x ∷ []) (inl refl)) i)
    (inr (run_in m c p 0 (a ++ x ∷ b) 0 x old (in_right x a (x ∷ b) (inl refl))).2)
    tt (λ g. absurd (g hp)) (λ g. (hr, hl))
  where
    old : Run m c p 0 (a ++ x ∷ b) 0
    old = rw e.was at (k.run p pz pc)

    no : ¬ In 0 (a ++ x ∷ b)
    no i = lt_irrefl 0 (run_in m c p 0 (a ++ x ∷ b) 0 0 old i).0

-- a new node, with no parent and no children
pub record Fresh (m m' : Mem) (f : ℕ) : Type 0 where
  pub same : (y : ℕ) → y ≢ f → (m'.par y ≡ m.par y) × (m'.first y ≡ m.first y) × (m'.last y ≡ m.last y) × (m'.next y ≡ m.next y) × (m'.prev y ≡ m.prev y)
  pub bare : (m'.par f ≡ 0) × (m'.first f ≡ 0) × (m'.last f ≡ 0) × (m'.next f ≡ 0) × (m'.prev f ≡ 0)

pub created : {m m' : Mem} {c : ℕ} {kids kids' : ℕ → List ℕ} → Kids m c kids → ((n : ℕ) → 0 < n → n ≤ c → m.par n ≤ c) → Fresh m m' (suc c)
    → kids' (suc c) ≡ [] → ((q : ℕ) → q ≤ c → kids' q ≡ kids q) → Kids m' (suc c) kids'
created {m} {m'} {c} {kids} {kids'} k used f e r =
    record {
      run = λ q z l. (node q z l (dec_lt c q)).0;
      first = λ q z l. (node q z l (dec_lt c q)).1;
      last = λ q z l. (node q z l (dec_lt c q)).2;
      own = λ y z l. (child y z l (dec_lt c y)).0;
      loose = λ y z l. (child y z l (dec_lt c y)).1;
    }
  where
    node : (q : ℕ) → 0 < q → q ≤ suc c → Dec (c < q) → Run m' (suc c) q 0 (kids' q) 0 × (m'.first q ≡ hd (kids' q) 0) × (m'.last q ≡ lst 0 (kids' q))
    node q z l (yes d) = let g : q ≡ suc c = omega arith in rw (g, e) (tt, f.bare.1, f.bare.2)
    node q z l (no d) =
        let h : q ≤ c = omega arith in
        let t = f.same q (omega arith) in
        rw (r q h) (
          run_frame m m' c (suc c) q q (omega arith) 0 (kids q) 0
              (λ y i.
              let j = run_in m c q 0 (kids q) 0 y (k.run q z h) i in
              let w = f.same y (omega arith) in
              (w.0 ∙ j.2, w.3, w.4))
              (k.run q z h),
          t.1 ∙ k.first q z h,
          t.2 ∙ k.last q z h,
        )

    child : (y : ℕ) → 0 < y → y ≤ suc c → Dec (c < y) → (m'.par y ≢ 0 → In y (kids' (m'.par y))) × (m'.par y ≡ 0 → (m'.next y ≡ 0) × (m'.prev y ≡ 0))
    child y z l (yes d) =
        let g : y ≡ suc c = omega arith in
        rw g (λ h. absurd (h f.bare.0), λ _. (f.bare.3, f.bare.4))
    child y z l (no d) =
        let h : y ≤ c = omega arith in
        let t = f.same y (omega arith) in
        rw (t.0, t.3, t.4) (λ g. rw (r (m.par y) (used y z h)) (k.own y z h g), k.loose y z h)

-- ---- all children of one node go behind those of another

pub record Move (m m' : Mem) (c p q : ℕ) (xs ys : List ℕ) : Type 0 where
  pub par : (y : ℕ) → 0 < y → y ≤ c → m.par y ≡ p → m'.par y ≡ q
  pub pars : (y : ℕ) → 0 < y → y ≤ c → m.par y ≢ p → m'.par y ≡ m.par y
  pub next : (y : ℕ) → y ≢ lst 0 ys → m'.next y ≡ m.next y
  pub prev : (y : ℕ) → y ≢ hd xs 0 → m'.prev y ≡ m.prev y
  pub left : lst 0 ys ≢ 0 → m'.next (lst 0 ys) ≡ hd xs 0
  pub right : hd xs 0 ≢ 0 → m'.prev (hd xs 0) ≡ lst 0 ys
  pub firstp : m'.first p ≡ 0
  pub lastp : m'.last p ≡ 0
  pub firstq : m'.first q ≡ hd (ys ++ xs) 0
  pub lastq : m'.last q ≡ lst 0 (ys ++ xs)
  pub ends : (y : ℕ) → y ≢ p → y ≢ q → (m'.first y ≡ m.first y) × (m'.last y ≡ m.last y)

pub moved : {m m' : Mem} {c : ℕ} {kids kids' : ℕ → List ℕ} (k : Kids m c kids) (p q : ℕ) → p ≢ q → 0 < p → p ≤ c → 0 < q → q ≤ c
    → Move m m' c p q (kids p) (kids q) → kids' p ≡ [] → kids' q ≡ kids q ++ kids p → ((y : ℕ) → y ≢ p → y ≢ q → kids' y ≡ kids y) → Kids m' c kids'
moved {m} {m'} {c} {kids} {kids'} k p q ne pz pc qz qc v ep eq er =
    record {
      run = λ y z l. (node y z l (ℕ_discrete y p) (ℕ_discrete y q)).0;
      first = λ y z l. (node y z l (ℕ_discrete y p) (ℕ_discrete y q)).1;
      last = λ y z l. (node y z l (ℕ_discrete y p) (ℕ_discrete y q)).2;
      own = λ y z l. (child y z l (ℕ_discrete (m.par y) p) (ℕ_discrete (m.par y) q)).0;
      loose = λ y z l. (child y z l (ℕ_discrete (m.par y) p) (ℕ_discrete (m.par y) q)).1;
    }
  where
    kid : (n : ℕ) → 0 < n → n ≤ c → (y : ℕ) → In y (kids n) → (0 < y) × (y ≤ c) × (m.par y ≡ n)
    kid n z l y i = run_in m c n 0 (kids n) 0 y (k.run n z l) i

    not_zero : (n : ℕ) → 0 < n → n ≤ c → ¬ In 0 (kids n)
    not_zero n z l i = lt_irrefl 0 (kid n z l 0 i).0

    -- a used node that is next to the seam
    at_left : (y : ℕ) → 0 < y → y ≡ lst 0 (kids q) → m.par y ≡ q
    at_left y z d = by (lst_or 0 (kids q))
      where
        by : (lst 0 (kids q) ≡ 0) ⊎ In (lst 0 (kids q)) (kids q) → m.par y ≡ q
        by (inl g) = absurd (omega arith)
        by (inr i) = (kid q qz qc y (rw d i)).2

    at_right : (y : ℕ) → 0 < y → y ≡ hd (kids p) 0 → m.par y ≡ p
    at_right y z d = by (hd_or (kids p) 0)
      where
        by : (hd (kids p) 0 ≡ 0) ⊎ In (hd (kids p) 0) (kids p) → m.par y ≡ p
        by (inl g) = absurd (omega arith)
        by (inr i) = (kid p pz pc y (rw d i)).2

    new_q : Run m' c q 0 (kids q ++ kids p) 0
    new_q =
        run_join m' c q 0 (kids q) (kids p) 0
        (run_right m m' c c q q (le_refl c) 0 (kids q) 0 (hd (kids p) 0) (not_zero q qz qc)
        (λ y i. let t = kid q qz qc y i in (v.pars y t.0 t.1 (λ d. ne (sym d ∙ t.2)) ∙ t.2, v.prev y (λ d. ne (sym (at_right y t.0 d) ∙ t.2))))
        (λ y i d. v.next y d)
        (λ i. v.left (let t = (kid q qz qc _ i).0 in omega arith))
        (k.run q qz qc))
        (run_left m m' c c p q (le_refl c) 0 (lst 0 (kids q)) (kids p) 0 (not_zero p pz pc)
        (λ y i. let t = kid p pz pc y i in (v.par y t.0 t.1 t.2, v.next y (λ d. ne (sym t.2 ∙ at_left y t.0 d))))
        (λ y i d. v.prev y d)
        (λ i. v.right (let t = (kid p pz pc _ i).0 in omega arith))
        (k.run p pz pc))

    other : (n : ℕ) → 0 < n → n ≤ c → n ≢ p → n ≢ q → (y : ℕ) → In y (kids n) → (m'.par y ≡ n) × (m'.next y ≡ m.next y) × (m'.prev y ≡ m.prev y)
    other n z l d g y i =
        let t = kid n z l y i in (
          v.pars y t.0 t.1 (λ h. d (sym t.2 ∙ h)) ∙ t.2,
          v.next y (λ h. g (sym t.2 ∙ at_left y t.0 h)),
          v.prev y (λ h. d (sym t.2 ∙ at_right y t.0 h)),
        )

    node : (y : ℕ) → 0 < y → y ≤ c → Dec (y ≡ p) → Dec (y ≡ q) → Run m' c y 0 (kids' y) 0 × (m'.first y ≡ hd (kids' y) 0) × (m'.last y ≡ lst 0 (kids' y))
    node y z l (yes d) _ = rw (d, ep) (tt, v.firstp, v.lastp)
    node y z l (no d) (yes g) = rw (g, eq) (new_q, v.firstq, v.lastq)
    node y z l (no d) (no g) = rw (er y d g) (run_frame m m' c c y y (le_refl c) 0 (kids y) 0 (other y z l d g) (k.run y z l), (v.ends y d g).0 ∙ k.first y z l, (v.ends y d g).1 ∙ k.last y z l)

    child : (y : ℕ) → 0 < y → y ≤ c → Dec (m.par y ≡ p) → Dec (m.par y ≡ q)
        → (m'.par y ≢ 0 → In y (kids' (m'.par y))) × (m'.par y ≡ 0 → (m'.next y ≡ 0) × (m'.prev y ≡ 0))
    child y z l (yes d) _ =
        rw (v.par y z l d) (λ h. rw eq (in_right y (kids q) (kids p) (rw d at (k.own y z l (omega arith)))), λ h. absurd (omega arith))
    child y z l (no d) (yes g) =
        rw (v.pars y z l d, g) (λ h. rw eq (in_left y (kids q) (kids p) (rw g at (k.own y z l (omega arith)))), λ h. absurd (omega arith))
    child y z l (no d) (no g) =
        rw (v.pars y z l d) (
          λ h. rw (er (m.par y) d g) (k.own y z l h),
          λ h. let t = k.loose y z l h in (v.next y (λ f. g (at_left y z f)) ∙ t.0, v.prev y (λ f. d (at_right y z f)) ∙ t.1),
        )

-- lists that are the same at every node
pub kids_same : {m : Mem} {c : ℕ} {kids kids' : ℕ → List ℕ} → Kids m c kids → ((q : ℕ) → kids' q ≡ kids q) → Kids m c kids'
kids_same {m} k e =
    record {
      run = λ q z l. rw (e q) (k.run q z l);
      first = λ q z l. rw (e q) (k.first q z l);
      last = λ q z l. rw (e q) (k.last q z l);
      own = λ y z l h. rw (e (m.par y)) (k.own y z l h);
      loose = k.loose;
    }
