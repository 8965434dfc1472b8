-- A place that is given up is set to 0. The places s, of which the first d are in use, become the places t, of which the first e
-- are: after an entry has left, or all from an entry on have, what was in use and no longer is holds 0, every place past those holds
-- what it held, there are as many places as before, and the entries that stay keep their order.
-- Assumes nothing.
use Rattle.std.proofs.Common.{ℕ, ◌+◌, ◌-◌, ◌≤◌, ◌<◌, ◌≡◌, refl, ap, sym, ◌∙◌, List, ◌∷◌, ◌++◌, arith, length, get_or, take, drop, replicate, length-append, length-take, length-drop, take-append-drop, get_or-take, get_or-drop, get_or-append-add, length-take-le, None, Option, Some}
use Rattle.std.proofs.Math.ListN.{length-replicate, get_or-replicate, get_or-append}
use Rattle.places.specs.Places.{Places, places_of, without, within, cut, place_of, left, left_at, after_at, exchanged, exchanged_at}
use Rattle.places.proofs.Laws.{place_lt}

-- what was in use and is not any more holds 0, and all past it is as before
pub record GivenUp (s t : List ℕ) (d e : ℕ) : Type 0 where
  pub size : length t ≡ length s
  pub zero : (k : ℕ) → e ≤ k → k < d → get_or t k 0 ≡ 0
  pub rest : (k : ℕ) → d ≤ k → get_or t k 0 ≡ get_or s k 0

-- what stands at a place past the first list
past : (xs ys : List ℕ) (e k : ℕ) → length xs ≡ e → e ≤ k → get_or (xs ++ ys) k 0 ≡ get_or ys (k - e) 0
past xs ys e k l h =
    let g : k ≡ length xs + (k - e) = omega arith in
    ap (λ (n : ℕ). get_or (xs ++ ys) n 0) g ∙ get_or-append-add xs ys (k - e) 0

before : (xs ys : List ℕ) (k : ℕ) → k < length xs → get_or (xs ++ ys) k 0 ≡ get_or xs k 0
before xs ys k h = get_or-append xs ys 0 k h

-- the entries, as many zeros as places were given up, and what stood past the entries
given : (s h t : List ℕ) (d e : ℕ) → e ≤ d → d ≤ length s → length h ≡ e → t ≡ h ++ (replicate (d - e) 0 ++ drop d s) → GivenUp s t d e
given s h t d e le ld lh q =
    rw q
    record {
      size = omega (arith, length-append h (replicate (d - e) 0 ++ drop d s), length-append (replicate {A = ℕ} (d - e) 0) (drop d s), zeros, length-drop d s);
      zero =
          λ k a b.
          past h (replicate (d - e) 0 ++ drop d s) e k lh a
          ∙ before (replicate (d - e) 0) (drop d s) (k - e) (omega (arith, zeros))
          ∙ get_or-replicate (d - e) (k - e) 0 0 (omega arith);
      rest =
          λ k a.
          let g : d + (k - e - (d - e)) ≡ k = omega arith in
          past h (replicate (d - e) 0 ++ drop d s) e k lh (omega arith)
          ∙ past (replicate (d - e) 0) (drop d s) (d - e) (k - e) zeros (omega arith)
          ∙ get_or-drop d s (k - e - (d - e)) 0
          ∙ ap (λ (n : ℕ). get_or s n 0) g;
    }
  where
    zeros : length (replicate {A = ℕ} (d - e) 0) ≡ d - e
    zeros = length-replicate {A = ℕ} (d - e) 0

-- the places from what is in use and what is not
joined : (t : List ℕ) (e : ℕ) (p : Places) → places_of t e ≡ p → t ≡ p.held ++ p.free
joined t e p q = sym (take-append-drop e t) ∙ ap (λ (x : Places). x.held ++ x.free) q

counted : (t : List ℕ) (e : ℕ) (p : Places) → places_of t e ≡ p → e ≡ p.size
counted t e p q = ap (λ (x : Places). x.size) q

-- nothing is given up where the places stay
kept : (s t : List ℕ) (d e : ℕ) → places_of t e ≡ places_of s d → GivenUp s t d e
kept s t d e q =
    let z = counted t e (places_of s d) q in
    rw (joined t e (places_of s d) q ∙ take-append-drop d s) (record { size = refl; zero = λ k a b. absurd (omega arith); rest = λ k a. refl })

wo_length : (s : List ℕ) (d i : ℕ) → i < d → d ≤ length s → length (take i (take d s) ++ drop (i + 1) (take d s)) ≡ d - 1
wo_length s d i h l = simp (length-append, length-take, length-drop) (omega arith)

wi_length : (h : List ℕ) (i n : ℕ) → length (take i h ++ (n ∷ drop i h)) ≡ length h + 1
wi_length h i n = simp (length-append, length-take, length-drop) (omega arith)

module _ (s t : List ℕ) (d : ℕ) (l : d ≤ length s) where
  -- entry i leaves
  leaves : (i : ℕ) → i < d → places_of t (d - 1) ≡ without (places_of s d) i → t ≡ (take i (take d s) ++ drop (i + 1) (take d s)) ++ (0 ∷ drop d s)
  unfolding without
  leaves i h q = joined t (d - 1) (without (places_of s d) i) q

  pub without_gives_up : (i : ℕ) → i < d → places_of t (d - 1) ≡ without (places_of s d) i
      → GivenUp s t d (d - 1)
      × ((k : ℕ) → k < i → get_or t k 0 ≡ get_or s k 0)
      × ((k : ℕ) → i ≤ k → k < d - 1 → get_or t k 0 ≡ get_or s (k + 1) 0)
  without_gives_up i h q = (
    given s (take i (take d s) ++ drop (i + 1) (take d s)) t d (d - 1) (omega arith) l (wo_length s d i h l) (rw one (leaves i h q)),
    λ k a.
        ap (λ (x : List ℕ). get_or x k 0) (leaves i h q)
        ∙ before (take i (take d s) ++ drop (i + 1) (take d s)) (0 ∷ drop d s) k (omega (arith, wo_length s d i h l))
        ∙ before (take i (take d s)) (drop (i + 1) (take d s)) k (omega (arith, low))
        ∙ get_or-take i (take d s) k 0 a
        ∙ get_or-take d s k 0 (omega arith),
    λ k a b.
        let g : i + 1 + (k - i) ≡ k + 1 = omega arith in
        ap (λ (x : List ℕ). get_or x k 0) (leaves i h q)
        ∙ before (take i (take d s) ++ drop (i + 1) (take d s)) (0 ∷ drop d s) k (omega (arith, wo_length s d i h l))
        ∙ past (take i (take d s)) (drop (i + 1) (take d s)) i k low a
        ∙ get_or-drop (i + 1) (take d s) (k - i) 0
        ∙ ap (λ (n : ℕ). get_or (take d s) n 0) g
        ∙ get_or-take d s (k + 1) 0 (omega arith),
  )
    where
      one : d - (d - 1) ≡ 1
      one = omega arith

      low : length (take i (take d s)) ≡ i
      low = length-take-le i (take d s) (omega (arith, length-take d s))

  -- entry i and all after it leave
  pub cut_gives_up : (i : ℕ) → i ≤ d → places_of t i ≡ cut (places_of s d) i → GivenUp s t d i × ((k : ℕ) → k < i → get_or t k 0 ≡ get_or s k 0)
  unfolding cut
  cut_gives_up i h q = (
    given s (take i (take d s)) t d i h l low whole,
    λ k a.
        ap (λ (x : List ℕ). get_or x k 0) whole
        ∙ before (take i (take d s)) (replicate (d - i) 0 ++ drop d s) k (omega (arith, low))
        ∙ get_or-take i (take d s) k 0 a
        ∙ get_or-take d s k 0 (omega arith),
  )
    where
      low : length (take i (take d s)) ≡ i
      low = length-take-le i (take d s) (omega (arith, length-take d s))

      whole : t ≡ take i (take d s) ++ (replicate (d - i) 0 ++ drop d s)
      whole = rw (length-take-le d s l) at (joined t i (cut (places_of s d) i) q)

  -- n leaves, if it is there
  pub left_gives_up : (e n : ℕ) → places_of t e ≡ left (places_of s d) n → GivenUp s t d e
  unfolding left left_at without
  left_gives_up e n q = by (place_of (places_of s d) n) refl q
    where
      by : (r : Option ℕ) → place_of (places_of s d) n ≡ r → places_of t e ≡ left_at r (places_of s d) → GivenUp s t d e
      by None a b = kept s t d e b
      by (Some j) a b =
          let g : e ≡ d - 1 = counted t e (without (places_of s d) j) b in
          rw g (without_gives_up j (place_lt s d n j l a) (rw g at b)).0

  -- f leaves and n comes right after x: a place is given up only where f is there and x is not
  pub exchanged_gives_up : (e f x n : ℕ) → places_of t e ≡ exchanged (places_of s d) f x n → GivenUp s t d e
  unfolding exchanged exchanged_at without within after_at
  exchanged_gives_up e f x n q = by (place_of (places_of s d) f) refl q
    where
      again : (j i : ℕ) → j < d → places_of t e ≡ within (without (places_of s d) j) (i + 1) n → GivenUp s t d e
      again j i h b =
          let g : e ≡ d - 1 + 1 = counted t e (within (without (places_of s d) j) (i + 1) n) b in
          let o : e ≡ d = omega arith in
          let z : d - d ≡ 0 = omega arith in
          rw o
          (given s (take (i + 1) (take j (take d s) ++ drop (j + 1) (take d s)) ++ (n ∷ drop (i + 1) (take j (take d s) ++ drop (j + 1) (take d s)))) t d d (omega arith) l
          (omega (arith, wi_length (take j (take d s) ++ drop (j + 1) (take d s)) (i + 1) n, wo_length s d j h l))
          (rw z (joined t e (within (without (places_of s d) j) (i + 1) n) b)))

      after : (j : ℕ) → j < d → (r : Option ℕ) → places_of t e ≡ after_at r (without (places_of s d) j) n → GivenUp s t d e
      after j h None b =
          let g : e ≡ d - 1 = counted t e (without (places_of s d) j) b in
          rw g (without_gives_up j h (rw g at b)).0
      after j h (Some i) b = again j i h b

      by : (r : Option ℕ) → place_of (places_of s d) f ≡ r → places_of t e ≡ exchanged_at r (places_of s d) x n → GivenUp s t d e
      by None a b = kept s t d e b
      by (Some j) a b = after j (place_lt s d f j l a) (place_of (without (places_of s d) j) x) b
