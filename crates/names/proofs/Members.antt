-- What holds of each name of a set, from one test over the set; and what holds of formatting names.
-- Assumes nothing.
use Rattle.std.proofs.Common.{◌≡◌, refl, sym, ◌∙◌, Bool, true, false, not, ◌&&◌, ◌||◌, List, [], ◌∷◌, ℕ, zero, suc, T, eqb, eqb-true}
use Rattle.std.proofs.Math.Bool.{false≢true}
use Rattle.std.proofs.Math.Facts.{and_yes}
use Rattle.names.specs.Space as space
use Rattle.names.specs.Tag as tag
use Rattle.names.specs.Numbers.{in_table, is_name}
use Rattle.names.specs.Sets.{Names, member, names_in, is_in, formatting, Formatting, special}

pub is_true : (b : Bool) → T b → b ≡ true
is_true true t = refl
is_true false t = absurd t

is_false : (b : Bool) → T (not b) → b ≡ false
is_false true t = absurd t
is_false false t = refl

abbrev pub every : (ℕ → Bool) → List ℕ → Bool
every f [] = true
every f (x ∷ xs) = f x && every f xs

pub every_at : (f : ℕ → Bool) (xs : List ℕ) → T (every f xs) → (n : ℕ) → member n xs ≡ true → T (f n)
every_at f [] t n e = absurd (false≢true e)
every_at f (x ∷ xs) t n e = go (every_at f xs (and_yes (f x) (every f xs) t).1 n) (eqb n x) refl e
  where
    go : (member n xs ≡ true → T (f n)) → (b : Bool) → eqb n x ≡ b → b || member n xs ≡ true → T (f n)
    go r true p q = rw (eqb-true n x p) (and_yes (f x) (every f xs) t).0
    go r false p q = r q

-- what the test is not true of is no member
pub no_member : (f : ℕ → Bool) (xs : List ℕ) → T (every f xs) → (n : ℕ) → f n ≡ false → member n xs ≡ false
no_member f xs t n e = go (member n xs) refl
  where
    go : (b : Bool) → member n xs ≡ b → b ≡ false
    go true p = absurd (false≢true (sym e ∙ is_true (f n) (every_at f xs t n p)))
    go false p = refl

-- the test over a set's names in all namespaces
unfoldable pub everywhere : (ℕ → Bool) → Names → Bool
everywhere f s = every f s.html && (every f s.math && every f s.svg)

pub every_in : (f : ℕ → Bool) (s : Names) → T (everywhere f s) → (ns : ℕ) → T (every f (names_in s ns))
unfolding everywhere
every_in f s t = go (and_yes (every f s.html) (every f s.math && every f s.svg) t)
  where
    go : T (every f s.html) × T (every f s.math && every f s.svg) → (ns : ℕ) → T (every f (names_in s ns))
    go p zero = p.0
    go p (suc zero) = (and_yes (every f s.math) (every f s.svg) p.1).0
    go p (suc (suc zero)) = (and_yes (every f s.math) (every f s.svg) p.1).1
    go p (suc (suc (suc ns))) = tt

-- no formatting name is special
pub formatting_not_special : (n : ℕ) → member n formatting ≡ true → member n special ≡ false
unfolding formatting special
formatting_not_special n e = is_false (member n special) (every_at (λ k. not (member k special)) formatting tt n e)

-- each formatting name is a known one, and none of them is `html` or `template`
plain_name : ℕ → Bool
plain_name k = is_name k && (not (eqb k tag.html) && not (eqb k tag.template))

pub record Plain (name : ℕ) : Type 0 where
  pub known : is_name name ≡ true
  pub no_html : eqb name tag.html ≡ false
  pub no_template : eqb name tag.template ≡ false

pub formatting_plain : (name : ℕ) → is_in Formatting space.html name ≡ true → Plain name
unfolding plain_name formatting is_name in_table
formatting_plain name e =
    let a = and_yes (is_name name) (not (eqb name tag.html) && not (eqb name tag.template)) (every_at plain_name formatting tt name e) in
    let b = and_yes (not (eqb name tag.html)) (not (eqb name tag.template)) a.1 in
    record { known = is_true (is_name name) a.0; no_html = is_false (eqb name tag.html) b.0; no_template = is_false (eqb name tag.template) b.1 }
