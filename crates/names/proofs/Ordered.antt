-- Laws of the order of byte strings, for any strings.
-- Assumes nothing.
use Rattle.std.proofs.Common.{◌≡◌, refl, Bool, true, false, ◌&&◌, ◌||◌, List, [], ◌∷◌, ℕ, zero, suc, ◌≤◌, ◌<◌, le_refl, le_of_suc-le-suc, not-suc-le-zero, arith, T, eqb, ltb, length, get_or, lt-ltb, le-ltb, eq-eqb, ltb-true, eqb-true}
use Rattle.std.proofs.Math.Bool.{false≢true}
use Rattle.std.proofs.Math.Facts.{and_yes}
use Rattle.names.specs.Order.{is_before, leads, ascending}
use Rattle.names.proofs.Members.{is_true}

-- the first bytes decide, or they are the same and the rest does
data First (x y : ℕ) (rest : Bool) : Type 0 where
  less : x < y → First x y rest
  equal : x ≡ y → rest ≡ true → First x y rest

first : (x y : ℕ) (rest : Bool) → ltb x y || (eqb x y && rest) ≡ true → First x y rest
first x y rest e = go (ltb x y) (eqb x y) refl refl e
  where
    go : (s t : Bool) → ltb x y ≡ s → eqb x y ≡ t → s || (t && rest) ≡ true → First x y rest
    go true t p q f = less (ltb-true x y p)
    go false true p q f = equal (eqb-true x y q) f
    go false false p q f = absurd (false≢true f)

at_less : (x y : ℕ) (rest : Bool) → x < y → ltb x y || (eqb x y && rest) ≡ true
at_less x y rest h = rw (lt-ltb x y h)

at_equal : (x y : ℕ) (rest : Bool) → x ≡ y → rest ≡ true → ltb x y || (eqb x y && rest) ≡ true
at_equal x y rest e f = let l : y ≤ x = omega arith in rw (le-ltb x y l, eq-eqb x y e) f

pub is_before_irrefl : (a : List ℕ) → is_before a a ≡ false
is_before_irrefl [] = refl
is_before_irrefl (x ∷ xs) = rw (le-ltb x x (le_refl x), eq-eqb x x refl) (is_before_irrefl xs)

pub is_before_trans : (a b c : List ℕ) → is_before a b ≡ true → is_before b c ≡ true → is_before a c ≡ true
is_before_trans a [] [] e f = absurd (false≢true f)
is_before_trans a (y ∷ ys) [] e f = absurd (false≢true f)
is_before_trans [] b (z ∷ zs) e f = refl
is_before_trans (x ∷ xs) [] (z ∷ zs) e f = absurd (false≢true e)
is_before_trans (x ∷ xs) (y ∷ ys) (z ∷ zs) e f = go (is_before_trans xs ys zs) (first x y (is_before xs ys) e) (first y z (is_before ys zs) f)
  where
    go : (is_before xs ys ≡ true → is_before ys zs ≡ true → is_before xs zs ≡ true) → First x y (is_before xs ys) → First y z (is_before ys zs) → is_before (x ∷ xs) (z ∷ zs) ≡ true
    go r (less h) (less l) = at_less x z (is_before xs zs) (omega arith)
    go r (less h) (equal l m) = at_less x z (is_before xs zs) (omega arith)
    go r (equal h k) (less l) = at_less x z (is_before xs zs) (omega arith)
    go r (equal h k) (equal l m) = at_equal x z (is_before xs zs) (omega arith) (r k m)

head_first : (x : List ℕ) (xs : List (List ℕ)) → T (ascending (x ∷ xs)) → (q : ℕ) → q < length xs → is_before x (get_or xs q []) ≡ true
head_first x [] t q h = absurd (not-suc-le-zero h)
head_first x (y ∷ ys) t zero h = is_true (is_before x y) (and_yes (is_before x y) (ascending (y ∷ ys)) t).0
head_first x (y ∷ ys) t (suc q) h =
    is_before_trans x y (get_or ys q []) (is_true (is_before x y) (and_yes (is_before x y) (ascending (y ∷ ys)) t).0)
    (head_first y ys (and_yes (is_before x y) (ascending (y ∷ ys)) t).1 q (le_of_suc-le-suc h))

-- the test of neighbours: each string stands before each later one
pub ascends : (xs : List (List ℕ)) → T (ascending xs) → (p q : ℕ) → p < q → q < length xs → is_before (get_or xs p []) (get_or xs q []) ≡ true
ascends [] t p q h l = absurd (not-suc-le-zero l)
ascends (x ∷ xs) t p zero h l = absurd (not-suc-le-zero h)
ascends (x ∷ xs) t zero (suc q) h l = head_first x xs t q (le_of_suc-le-suc l)
ascends (x ∷ xs) t (suc p) (suc q) h l = ascends xs (and_yes (leads x xs) (ascending xs) t).1 p q (le_of_suc-le-suc h) (le_of_suc-le-suc l)
