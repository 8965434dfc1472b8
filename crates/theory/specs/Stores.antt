-- From the stores of the code to `Kids`: what an arena function's contract says, and the list that it gives.
-- Assumes nothing.
use Rattle.std.specs.Prelude.{◌≡◌, refl, ◌≢◌, ℕ, ◌≤◌, ◌<◌, List, [], ◌∷◌, ◌++◌}
use Rattle.std.proofs.Common.{sym, ap, ◌∙◌, inl, inr, ⊎_elim, arith, append-nil}
use Rattle.theory.specs.Fn.{In, Upd, put, put_upd}
use Rattle.theory.specs.Kids.{Mem, hd, lst, Run, Kids, Splice, Edit, insert, without, run_in, run_part, lst_in, lst_or, in_left}

-- `if c != 0 { f[c] = v }`
pub record Upd0 (f f' : ℕ → ℕ) (c v : ℕ) : Type 0 where
  pub new : c ≢ 0 → f' c ≡ v
  pub old : (n : ℕ) → n ≢ c → f' n ≡ f n

-- `if l == 0 { f[c] = v }`
pub record UpdIf (l : ℕ) (f f' : ℕ → ℕ) (c v : ℕ) : Type 0 where
  pub new : l ≡ 0 → f' c ≡ v
  pub kept : l ≢ 0 → f' c ≡ f c
  pub old : (n : ℕ) → n ≢ c → f' n ≡ f n

put_edit : (kids : ℕ → List ℕ) (p : ℕ) (old new : List ℕ) → kids p ≡ old → Edit kids (put kids p new) p old new
put_edit kids p old new e = record { was = e; is = (put_upd kids p new).new; rest = (put_upd kids p new).old }

-- ---- append x, which has no parent, to p
--   let l = last[p]; par[x] = p; prev[x] = l; if l == 0 { first[p] = x } if l != 0 { next[l] = x } last[p] = x;     (next[x] is 0)

pub record Append (m m' : Mem) (p x : ℕ) : Type 0 where
  pub par : Upd m.par m'.par x p
  pub prev : Upd m.prev m'.prev x (m.last p)
  pub next : Upd0 m.next m'.next (m.last p) x
  pub first : UpdIf (m.last p) m.first m'.first p x
  pub last : Upd m.last m'.last p x

lst_app : (l x : ℕ) (xs : List ℕ) → lst l (xs ++ x ∷ []) ≡ x
lst_app l x [] = refl
lst_app l x (y ∷ xs) = lst_app y x xs

pub appended : {m m' : Mem} {c : ℕ} {kids : ℕ → List ℕ} (k : Kids m c kids) (p x : ℕ) → 0 < p → p ≤ c → 0 < x → x ≤ c → m.par x ≡ 0 → Append m m' p x
    → Kids m' c (put kids p (kids p ++ x ∷ []))
appended {m} {m'} {c} {kids} k p x pz pc xz xc h w =
    insert k p x pz pc xz xc (kids p) [] (put_edit kids p _ _ (sym (append-nil (kids p)))) s h w.par.new (w.prev.new ∙ l) (next x (λ d. loose (sym d)) ∙ (k.loose x xz xc h).0)
  where
    l : m.last p ≡ lst 0 (kids p)
    l = k.last p pz pc

    next : (y : ℕ) → y ≢ lst 0 (kids p) → m'.next y ≡ m.next y
    next y d = w.next.old y (rw l d)

    -- the last child is not x
    loose : lst 0 (kids p) ≢ x
    loose d = ⊎_elim (λ g. omega arith) (λ i. let t = (run_in m c p 0 (kids p) 0 _ (k.run p pz pc) i).2 in let g : m.par x ≡ p = ap m.par (sym d) ∙ t in omega arith) (lst_or 0 (kids p))

    first : (xs : List ℕ) → kids p ≡ xs → m'.first p ≡ hd (xs ++ x ∷ []) 0
    first [] e = w.first.new (l ∙ ap (lst 0) e)
    first (y ∷ ys) e =
        let t = (run_in m c p 0 (y ∷ ys) 0 (lst y ys) (rw e at (k.run p pz pc)) (lst_in y ys)).0 in
        w.first.kept (rw (l, e) (omega arith)) ∙ k.first p pz pc ∙ ap (λ (q : List ℕ). hd q 0) e

    s : Splice m m' p x (kids p) (x ∷ []) []
    s =
        record {
          par = w.par.old;
          next = λ y d g. next y g;
          prev = λ y d g. w.prev.old y d;
          left = λ z. rw (← l) (w.next.new (rw l z));
          right = λ z. absurd (z refl);
          first = first (kids p) refl;
          last = w.last.new ∙ sym (lst_app 0 x (kids p));
          firsts = w.first.old;
          lasts = w.last.old;
        }

-- ---- a child's place in its parent's list

pub find : (x : ℕ) (xs : List ℕ) → In x xs → (a : List ℕ) × (b : List ℕ) × (xs ≡ a ++ x ∷ b)
find x [] x'' = elim x'' [ ]
find x (y ∷ xs) (inl e) = ([], xs, ap (λ (z : ℕ). z ∷ xs) (sym e))
find x (y ∷ xs) (inr i) = let t = find x xs i in (y ∷ t.0, t.1, ap (λ (l : List ℕ). y ∷ l) t.2)

pub lst_mid : (l y : ℕ) (xs ys : List ℕ) → lst l (xs ++ y ∷ ys) ≡ lst y ys
lst_mid l y [] ys = refl
lst_mid l y (x ∷ xs) ys = lst_mid x y xs ys

-- ---- detach x from p, its parent, between l and r
--   if l == 0 { first[p] = r } else { next[l] = r }  if r == 0 { last[p] = l } else { prev[r] = l }  par[x] = 0; prev[x] = 0; next[x] = 0;

pub record Detach (m m' : Mem) (x : ℕ) : Type 0 where
  pub par : Upd m.par m'.par x 0
  pub nextx : m'.next x ≡ 0
  pub prevx : m'.prev x ≡ 0
  pub nextl : m.prev x ≢ 0 → m'.next (m.prev x) ≡ m.next x
  pub prevr : m.next x ≢ 0 → m'.prev (m.next x) ≡ m.prev x
  pub next : (y : ℕ) → y ≢ x → y ≢ m.prev x → m'.next y ≡ m.next y
  pub prev : (y : ℕ) → y ≢ x → y ≢ m.next x → m'.prev y ≡ m.prev y
  pub first : UpdIf (m.prev x) m.first m'.first (m.par x) (m.next x)
  pub last : UpdIf (m.next x) m.last m'.last (m.par x) (m.prev x)

pub detached : {m m' : Mem} {c : ℕ} {kids : ℕ → List ℕ} (k : Kids m c kids) (x : ℕ) (a b : List ℕ) → 0 < m.par x → m.par x ≤ c
    → kids (m.par x) ≡ a ++ x ∷ b → Detach m m' x → Kids m' c (put kids (m.par x) (a ++ b))
detached {m} {m'} {c} {kids} k x a b pz pc e w = without k p x pz pc a b (put_edit kids p _ _ e) s w.par.new w.prevx w.nextx
  where
    p : ℕ
    p = m.par x

    old : Run m c p 0 (a ++ x ∷ b) 0
    old = rw e at (k.run p pz pc)

    l : m.prev x ≡ lst 0 a
    l = (run_part m c p 0 a (x ∷ b) 0 old).1.3

    r : m.next x ≡ hd b 0
    r = (run_part m c p 0 a (x ∷ b) 0 old).1.4

    first : (a' : List ℕ) → a ≡ a' → m'.first p ≡ hd (a' ++ b) 0
    first [] g = w.first.new (l ∙ ap (lst 0) g) ∙ r
    first (y ∷ ys) g =
        let t = (run_in m c p 0 (y ∷ ys ++ x ∷ b) 0 (lst y ys) (rw g at old) (in_left (lst y ys) (y ∷ ys) (x ∷ b) (lst_in y ys))).0 in
        w.first.kept (rw (l, g) (omega arith)) ∙ k.first p pz pc ∙ ap (λ (q : List ℕ). hd q 0) (rw g at e)

    last : (b' : List ℕ) → b ≡ b' → m'.last p ≡ lst 0 (a ++ b')
    last [] g = w.last.new (r ∙ ap (λ (q : List ℕ). hd q 0) g) ∙ l ∙ ap (lst 0) (sym (append-nil a))
    last (y ∷ ys) g =
        let t = (run_part m c p 0 a (x ∷ y ∷ ys) 0 (rw g at old)).1.5.0 in
        w.last.kept (rw (r, g) (omega arith)) ∙ k.last p pz pc ∙ ap (lst 0) (rw g at e) ∙ lst_mid 0 x a (y ∷ ys) ∙ sym (lst_mid 0 y a ys)

    s : Splice m m' p x a [] b
    s =
        record {
          par = w.par.old;
          next = λ y d g. w.next y d (rw l g);
          prev = λ y d g. w.prev y d (rw r g);
          left = λ z. rw (← l) (w.nextl (rw l z) ∙ r);
          right = λ z. rw (← r) (w.prevr (rw r z) ∙ l);
          first = first a refl;
          last = last b refl;
          firsts = w.first.old;
          lasts = w.last.old;
        }

-- ---- insert x, which has no parent, before s, whose parent is p
--   let l = prev[s]; par[x] = p; prev[x] = l; next[x] = s; prev[s] = x; if l == 0 { first[p] = x } else { next[l] = x }

pub record Before (m m' : Mem) (x s : ℕ) : Type 0 where
  pub par : Upd m.par m'.par x (m.par s)
  pub nextx : m'.next x ≡ s
  pub prevx : m'.prev x ≡ m.prev s
  pub nextl : m.prev s ≢ 0 → m'.next (m.prev s) ≡ x
  pub prevs : m'.prev s ≡ x
  pub next : (y : ℕ) → y ≢ x → y ≢ m.prev s → m'.next y ≡ m.next y
  pub prev : (y : ℕ) → y ≢ x → y ≢ s → m'.prev y ≡ m.prev y
  pub first : UpdIf (m.prev s) m.first m'.first (m.par s) x
  pub last : (q : ℕ) → m'.last q ≡ m.last q

pub inserted : {m m' : Mem} {c : ℕ} {kids : ℕ → List ℕ} (k : Kids m c kids) (x s : ℕ) (a b : List ℕ) → 0 < m.par s → m.par s ≤ c → 0 < x → x ≤ c → m.par x ≡ 0
    → kids (m.par s) ≡ a ++ s ∷ b → Before m m' x s → Kids m' c (put kids (m.par s) (a ++ x ∷ s ∷ b))
inserted {m} {m'} {c} {kids} k x s a b pz pc xz xc h e w = insert k p x pz pc xz xc a (s ∷ b) (put_edit kids p _ _ e) sp h w.par.new (w.prevx ∙ l) w.nextx
  where
    p : ℕ
    p = m.par s

    old : Run m c p 0 (a ++ s ∷ b) 0
    old = rw e at (k.run p pz pc)

    l : m.prev s ≡ lst 0 a
    l = (run_part m c p 0 a (s ∷ b) 0 old).1.3

    first : (a' : List ℕ) → a ≡ a' → m'.first p ≡ hd (a' ++ x ∷ s ∷ b) 0
    first [] g = w.first.new (l ∙ ap (lst 0) g)
    first (y ∷ ys) g =
        let t = (run_in m c p 0 (y ∷ ys ++ s ∷ b) 0 (lst y ys) (rw g at old) (in_left (lst y ys) (y ∷ ys) (s ∷ b) (lst_in y ys))).0 in
        w.first.kept (rw (l, g) (omega arith)) ∙ k.first p pz pc ∙ ap (λ (q : List ℕ). hd q 0) (rw g at e)

    sp : Splice m m' p x a (x ∷ []) (s ∷ b)
    sp =
        record {
          par = w.par.old;
          next = λ y d g. w.next y d (rw l g);
          prev = λ y d g. w.prev y d g;
          left = λ z. rw (← l) (w.nextl (rw l z));
          right = λ z. w.prevs;
          first = first a refl;
          last = w.last p ∙ k.last p pz pc ∙ ap (lst 0) e ∙ lst_mid 0 s a b ∙ sym (lst_mid 0 x a (s ∷ b));
          firsts = w.first.old;
          lasts = λ q d. w.last q;
        }
