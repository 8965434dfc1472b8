-- The document's own words on text pieces, and that they say exactly what `Texts` says. Assumes nothing.
use Rattle.std.specs.Prelude.{◌≡◌, ◌≢◌, ◌⊎◌, List, [], ℕ, zero, suc, ◌≤◌, ◌<◌}
use Rattle.std.proofs.Common.{sym, ◌∙◌, inl, inr, arith}
use Rattle.std.proofs.Math.Decide.{ℕ_discrete}
use Rattle.lent.specs.Mem.{field, KIND, PIECE, END}
use Rattle.theory.specs.Fn.{In}
use Rattle.theory.specs.Kids.{lst, in_split}
use Rattle.theory.specs.Pigeon.{Once, Within, pigeon, out_of}
use Rattle.theory.specs.Count.{lists, in_lists, once_join, within_join}
use Rattle.theory.specs.Path.{Path, path_walk}
use Rattle.texts.specs.Texts.{after, pieces_of, is_none, is_walk, Texts, once_at, within_at}

-- each text node has a chain of pieces, one at least; each used piece lies in exactly one of them, once; and they have only used ones
pub record Words (m q : List ℕ) (c u : ℕ) : Type 0 where
  pub of : ℕ → List ℕ
  pub text : (n : ℕ) → 0 < n → n ≤ c → field m n KIND ≡ 3
      → (of n ≢ []) × Path (after q) (field m n PIECE) (of n) 0 × (lst 0 (of n) ≡ field m n END)
  pub other : (n : ℕ) → 0 < n → n ≤ c → field m n KIND ≢ 3 → of n ≡ []
  pub used : (n : ℕ) → 0 < n → n ≤ c → Within u (of n)
  pub once : (n : ℕ) → 0 < n → n ≤ c → Once (of n)
  pub one : (n k p : ℕ) → 0 < n → n < k → k ≤ c → In p (of n) → In p (of k) → ⊥
  pub all : (p : ℕ) → 0 < p → p ≤ u → (n : ℕ) × (0 < n) × (n ≤ c) × In p (of n)

-- where a number of all lists stands
home : (f : ℕ → List ℕ) (c p : ℕ) → In p (lists f c) → (n : ℕ) × (0 < n) × (n ≤ c) × In p (f n)
unfolding lists
home f zero p i = absurd i
home f (suc c) p i = by (in_split p (f (suc c)) (lists f c) i) (home f c p)
  where
    by : In p (f (suc c)) ⊎ In p (lists f c) → (In p (lists f c) → (n : ℕ) × (0 < n) × (n ≤ c) × In p (f n))
        → (n : ℕ) × (0 < n) × (n ≤ suc c) × In p (f n)
    by (inl j) g = (suc c, omega arith, omega arith, j)
    by (inr j) g = let t = g j in (t.0, t.1, omega (arith, t.2), t.3)

pub texts→words : {m q : List ℕ} {c u : ℕ} → Texts m q c u → Words m q c u
texts→words {m} {q} {c} {u} s =
    record {
      of = pieces_of m q u;
      text = λ n z l. (s.own n z l).whole;
      other = λ n z l. is_none m q u n;
      used = λ n z l. used n z l;
      once = λ n z l. once n z l;
      one = λ n k p z h l i j. one n k p z h l i j;
      all = λ p z l. home (pieces_of m q u) c p (s.all p z l);
    }
  where
    used : (n : ℕ) → 0 < n → n ≤ c → Within u (pieces_of m q u n)
    used zero z l = elim z [ ]
    used (suc n) z l = within_at (pieces_of m q u) u c n l s.within

    once : (n : ℕ) → 0 < n → n ≤ c → Once (pieces_of m q u n)
    once zero z l = elim z [ ]
    once (suc n) z l = (once_at (pieces_of m q u) c n l s.once).0

    one : (n k p : ℕ) → 0 < n → n < k → k ≤ c → In p (pieces_of m q u n) → In p (pieces_of m q u k) → ⊥
    one n zero p z h l i j = elim h [ ]
    one n (suc k) p z h l i j = (once_at (pieces_of m q u) c k l s.once).1 p j (in_lists (pieces_of m q u) k n p z (omega arith) i)

pub words→texts : {m q : List ℕ} {c u : ℕ} → Words m q c u → Texts m q c u
unfolding lists
words→texts {m} {q} {c} {u} w =
    record {
      own = λ n z l. record { whole = λ k. rw (same n z l (ℕ_discrete (field m n KIND) 3)) (w.text n z l k) };
      once = (joined c (omega arith)).0;
      within = (joined c (omega arith)).1;
      all =
          λ p z l.
          let t = w.all p z l in
          in_lists f c t.0 p t.1 t.2 (rw (same t.0 t.1 t.2 (ℕ_discrete (field m t.0 KIND) 3)) t.3);
    }
  where
    f : ℕ → List ℕ
    f = pieces_of m q u

    same : (n : ℕ) → 0 < n → n ≤ c → Dec (field m n KIND ≡ 3) → pieces_of m q u n ≡ w.of n
    same n z l (yes e) =
        is_walk m q u n e ∙ path_walk (after q) (field m n PIECE) (w.of n) (suc u) (w.text n z l e).1 (let t =
        pigeon u (w.of n) (w.once n z l) (w.used n z l) in omega arith)
    same n z l (no e) = is_none m q u n e ∙ sym (w.other n z l e)

    same' : (n : ℕ) → 0 < n → n ≤ c → pieces_of m q u n ≡ w.of n
    same' n z l = same n z l (ℕ_discrete (field m n KIND) 3)

    joined : (k : ℕ) → k ≤ c → Once (lists (pieces_of m q u) k) × Within u (lists (pieces_of m q u) k)
    joined zero h = (tt, tt)
    joined (suc k) h =
        let t = joined k (omega arith) in
        let e = same' (suc k) (omega arith) h in (
          once_join (pieces_of m q u (suc k)) (lists (pieces_of m q u) k) (rw e (w.once (suc k) (omega arith) h)) t.0
              (λ p i. out_of p (lists (pieces_of m q u) k) (λ j. apart p k h (rw e at i) (home (pieces_of m q u) k p j))),
          within_join u (pieces_of m q u (suc k)) (lists (pieces_of m q u) k) (rw e (w.used (suc k) (omega arith) h)) t.1,
        )
      where
        apart : (p k : ℕ) → suc k ≤ c → In p (w.of (suc k)) → (n : ℕ) × (0 < n) × (n ≤ k) × In p (pieces_of m q u n) → ⊥
        apart p k h i t =
            w.one t.0 (suc k) p t.1 (omega (arith, t.2)) h
            (rw (same' t.0 t.1 (omega (arith, t.2))) at t.3) i
