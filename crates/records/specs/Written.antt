-- How records are written, from document 01: a call number, then the numbers that the call takes, and for a call with pairs their count
-- and then each name and text number. Each number is in unsigned LEB128: seven bits a byte, the low ones first, and the high bit set on
-- all bytes but the last.
-- Assumes nothing.
use Rattle.std.specs.Prelude.{ℕ, zero, suc, ◌+◌, ◌/◌, ◌%◌, ◌≤◌, ◌<◌, ◌≡◌, cond, List, [], ◌∷◌, ◌++◌, length, ltb, eqb}
use Rattle.records.specs.Record.{count_of, pairs_of}

-- ---- numbers

-- the bytes of v, at most k of them
unfoldable pub encoded_by : ℕ → ℕ → List ℕ
encoded_by zero v = []
encoded_by (suc k) v = cond (ltb v 128) (v ∷ []) ((v % 128 + 128) ∷ encoded_by k (v / 128))

-- the bytes of v: no number has more bytes than one more than itself
unfoldable pub encoded : ℕ → List ℕ
encoded v = encoded_by (suc v) v

-- numbers one after the other
unfoldable pub encoded_all : List ℕ → List ℕ
encoded_all [] = []
encoded_all (x ∷ xs) = encoded x ++ encoded_all xs

-- all are at most 65,535
abbrev pub Low : List ℕ → Type 0
Low [] = Unit {0}
Low (x ∷ xs) = (x ≤ 65535) × Low xs

-- ---- records

-- the names and text numbers of some pairs, in order
unfoldable pub flat : List (ℕ × ℕ) → List ℕ
flat [] = []
flat (p ∷ ps) = p.0 ∷ p.1 ∷ flat ps

-- what follows the arguments of a call: for calls 1 and 4 the count of the pairs, and the pairs
unfoldable pub pair_numbers : ℕ → List (ℕ × ℕ) → List ℕ
pair_numbers call ps = cond (eqb (pairs_of call) 0) [] (length ps ∷ flat ps)

-- the record of a call with these arguments and pairs
unfoldable pub record_of : ℕ → List ℕ → List (ℕ × ℕ) → List ℕ
record_of call args ps = encoded call ++ (encoded_all args ++ encoded_all (pair_numbers call ps))

-- the numbers of a record of a call: as many arguments as it takes, pairs only if it takes them, and none above 65,535
pub record Written (call : ℕ) (args : List ℕ) (ps : List (ℕ × ℕ)) : Type 0 where
  pub known : (0 < call) × (call ≤ 18)
  pub count : length args ≡ count_of call
  pub small : Low args
  pub pairs : pairs_of call ≡ 0 → ps ≡ []
  pub few : length ps ≤ 65535
  pub smalls : Low (flat ps)

-- ---- what stands where

-- the bytes xs stand in s from byte i on
pub record Stands (s : List ℕ) (i : ℕ) (xs : List ℕ) : Type 0 where
  pub before : List ℕ
  pub after : List ℕ
  pub whole : s ≡ before ++ (xs ++ after)
  pub place : length before ≡ i
