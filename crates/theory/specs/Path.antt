-- Chains of numbers by `next`: from x one meets xs, and then y.
-- Assumes nothing.
use Rattle.std.specs.Prelude.{◌≡◌, refl, ◌≢◌, List, [], ◌∷◌, ◌++◌, ℕ, zero, suc, ◌<◌, length}
use Rattle.std.proofs.Common.{sym, ap, ◌∙◌, inl, inr, not-suc-le-zero, le_of_suc-le-suc, arith, subst}
use Rattle.std.proofs.Math.Logic.{if_pos, if_neg}
use Rattle.std.proofs.Math.Decide.{ℕ_discrete}
use Rattle.theory.specs.Fn.{In}
use Rattle.theory.specs.Ord.{Out}
use Rattle.theory.specs.Kids.{Mem, hd, lst, Run, lst_in}
use Rattle.theory.specs.Pigeon.{Once, walk}

-- from x by f one meets xs, and then y
abbrev pub Path : (ℕ → ℕ) → ℕ → List ℕ → ℕ → Type 0
Path f x [] y = x ≡ y
Path f x (z ∷ zs) y = (x ≡ z) × (z ≢ 0) × Path f (f z) zs y

pub path_snoc : (f : ℕ → ℕ) (x : ℕ) (xs : List ℕ) (y : ℕ) → y ≢ 0 → Path f x xs y → Path f x (xs ++ y ∷ []) (f y)
path_snoc f x [] y z p = (p, z, refl)
path_snoc f x (w ∷ ws) y z p = (p.0, p.1, path_snoc f (f w) ws y z p.2)

-- what is met up to 0 begins with what is met up to y
pub path_split : (f : ℕ → ℕ) (x : ℕ) (xs zs : List ℕ) (y : ℕ) → Path f x xs 0 → Path f x zs y → (ws : List ℕ) × (xs ≡ zs ++ ws) × Path f y ws 0
path_split f x xs [] y p q = (xs, refl, rw q at p)
path_split f x [] (z ∷ zs) y p q = absurd (q.1 (sym q.0 ∙ p))
path_split f x (w ∷ ws) (z ∷ zs) y p q =
    let e : w ≡ z = sym p.0 ∙ q.0 in
    let t = path_split f (f z) ws zs y (rw e at p.2) q.2 in
    (t.0, ap (λ (a : ℕ). a ∷ ws) e ∙ ap (λ (l : List ℕ). z ∷ l) t.1, t.2)

-- it is the walk, with fuel enough
pub path_walk : (f : ℕ → ℕ) (x : ℕ) (xs : List ℕ) (k : ℕ) → Path f x xs 0 → length xs < k → walk f k x ≡ xs
unfolding walk
path_walk f x xs zero p h = absurd (not-suc-le-zero h)
path_walk f x [] (suc k) p h = if_pos (ℕ_discrete x 0) p _ _
path_walk f x (y ∷ ys) (suc k) p h =
    if_neg (ℕ_discrete x 0) (λ e. p.1 (sym p.0 ∙ e)) _ _ ∙ ap (λ (a : ℕ). a ∷ walk f k (f a)) p.0 ∙ ap (λ (l : List ℕ). y ∷ l) (path_walk f (f y) ys k p.2 (le_of_suc-le-suc h))

pub lst_snoc : (l : ℕ) (xs : List ℕ) (y : ℕ) → lst l (xs ++ y ∷ []) ≡ y
lst_snoc l [] y = refl
lst_snoc l (x ∷ xs) y = lst_snoc x xs y

-- two steps that agree on the chain have the same chain
pub path_same : (f g : ℕ → ℕ) (x : ℕ) (xs : List ℕ) (y : ℕ) → ((z : ℕ) → In z xs → g z ≡ f z) → Path f x xs y → Path g x xs y
path_same f g x [] y e p = p
path_same f g x (z ∷ zs) y e p = (p.0, p.1, rw (e z (inl refl)) (path_same f g (f z) zs y (λ w i. e w (inr i)) p.2))

-- a run of siblings is a chain by `next`
pub run_path : (m : Mem) (c p l : ℕ) (xs : List ℕ) → Run m c p l xs 0 → Path m.next (hd xs 0) xs 0
run_path m c p l [] h = refl
run_path m c p l (x ∷ xs) h = (refl, (λ e. omega (arith, h.0)), rw h.4 (run_path m c p x xs h.5))

pub in_out : (x : ℕ) (xs : List ℕ) → In x xs → Out x xs → ⊥
in_out x [] x3 o = elim x3 [ ]
in_out x (y ∷ xs) (inl e) o = o.0 (sym e)
in_out x (y ∷ xs) (inr i) o = in_out x xs i o.1

-- i comes after e, the last of the chain, and nothing comes after i
pub path_add : (f f' : ℕ → ℕ) (e i : ℕ) → i ≢ 0 → f' e ≡ i → f' i ≡ 0 → ((z : ℕ) → z ≢ e → z ≢ i → f' z ≡ f z) → (x y : ℕ) (ys : List ℕ) → Once (y ∷ ys) → lst y ys ≡ e
    → ¬ In i (y ∷ ys) → Path f x (y ∷ ys) 0 → Path f' x ((y ∷ ys) ++ i ∷ []) 0
path_add f f' e i iz fe fi same x y [] o l n p = (p.0, p.1, (ap f' l ∙ fe, iz, fi))
path_add f f' e i iz fe fi same x y (z ∷ zs) o l n p =
    let d : y ≢ e = λ q. in_out y (z ∷ zs) (subst (λ (t : ℕ). In t (z ∷ zs)) (l ∙ sym q) (lst_in z zs)) o.0 in
    (p.0, p.1, rw (same y d (λ q. n (inl (sym q)))) (path_add f f' e i iz fe fi same (f y) z zs o.1 l (λ j. n (inr j)) p.2))
