-- Each used piece lies in exactly one text node, once. Assumes nothing.
use Rattle.std.specs.Prelude.{◌≡◌, refl, cond, ◌≢◌, ◌⊎◌, length, eqb}
use Rattle.std.proofs.Common.{sym, ap, ◌∙◌, inl, inr, arith, eq-eqb, ne_eqb, List, [], ◌++◌, ℕ, zero, suc, ◌+◌, ◌-◌, ◌≤◌, ◌<◌, length-append}
use Rattle.std.proofs.Math.Decide.{ℕ_discrete}
use Rattle.theory.specs.Ord.{Out}
use Rattle.lent.specs.Mem.{field, load, PIECES, KIND, PIECE, END}
use Rattle.theory.specs.Fn.{at, In}
use Rattle.theory.specs.Kids.{lst, in_left, in_right, in_split}
use Rattle.theory.specs.Pigeon.{Once, Within, pigeon, full, out_of, walk}
use Rattle.theory.specs.Count.{lists, in_dec, cover, once_join, within_join}
use Rattle.theory.specs.Path.{Path, path_walk}
use Rattle.texts.specs.Pieces.{Marks, Met, Unmet, met_few, marks_none, once_part, within_part}

abbrev pub after : List ℕ → ℕ → ℕ
after q = λ p. load PIECES q p 1

-- the pieces of node n: those met from its first by `next`, if it is a text node
unfoldable pub pieces_of : List ℕ → List ℕ → ℕ → ℕ → List ℕ
pieces_of m q u n = cond (eqb (field m n KIND) 3) (walk (after q) (suc u) (field m n PIECE)) []

-- of a text node: one piece at least, then none, and the last is the one it names
pub record Own (m q : List ℕ) (u n : ℕ) : Type 0 where
  pub whole : field m n KIND ≡ 3
      → (pieces_of m q u n ≢ []) × Path (after q) (field m n PIECE) (pieces_of m q u n) 0 × (lst 0 (pieces_of m q u n) ≡ field m n END)

-- the document's words
pub record Texts (m q : List ℕ) (c u : ℕ) : Type 0 where
  pub own : (n : ℕ) → 0 < n → n ≤ c → Own m q u n
  pub once : Once (lists (pieces_of m q u) c)
  pub within : Within u (lists (pieces_of m q u) c)
  pub all : (p : ℕ) → 0 < p → p ≤ u → In p (lists (pieces_of m q u) c)

-- ---- one node

pub record Told (m q seen seen' : List ℕ) (u n r : ℕ) : Type 0 where
  pub own : Own m q u n
  pub size : suc (length (pieces_of m q u n)) ≡ r
  pub once : Once (pieces_of m q u n)
  pub within : Within u (pieces_of m q u n)
  pub fresh : (p : ℕ) → In p (pieces_of m q u n) → at seen p ≡ 0
  pub marks : Marks seen seen' (pieces_of m q u n)

pub record Untold (m q seen : List ℕ) (u n : ℕ) : Type 0 where
  pub no : Own m q u n → Once (pieces_of m q u n) → Within u (pieces_of m q u n) → ((p : ℕ) → In p (pieces_of m q u n) → at seen p ≡ 0) → ⊥

pub is_none : (m q : List ℕ) (u n : ℕ) → field m n KIND ≢ 3 → pieces_of m q u n ≡ []
unfolding pieces_of
is_none m q u n h = rw (ne_eqb (field m n KIND) 3 h)

pub is_walk : (m q : List ℕ) (u n : ℕ) → field m n KIND ≡ 3 → pieces_of m q u n ≡ walk (after q) (suc u) (field m n PIECE)
unfolding pieces_of
is_walk m q u n h = rw (eq-eqb (field m n KIND) 3 h)

pub told_other : (m q seen : List ℕ) (u n : ℕ) → field m n KIND ≢ 3 → Told m q seen seen u n 1
told_other m q seen u n h =
    let e = is_none m q u n h in
    record {
      own = record { whole = λ k. absurd (h k) };
      size = rw e refl;
      once = rw e tt;
      within = rw e tt;
      fresh = rw e (λ p i. absurd i);
      marks = rw e (marks_none seen);
    }

pub told_text : (m q : List ℕ) {seen seen' : List ℕ} (u n : ℕ) {k : ℕ} → field m n KIND ≡ 3 → k ≢ 0
    → Met (after q) seen seen' u (field m n PIECE) 0 (field m n END) k → Told m q seen seen' u n (k + 1)
told_text m q u n {k} h z g =
    let e : pieces_of m q u n ≡ g.xs = is_walk m q u n h ∙ path_walk (after q) (field m n PIECE) g.xs (suc u) g.path (omega (arith, g.size, met_few g)) in
    record {
      own = record { whole = λ _. rw e (λ w. z (sym g.size ∙ ap length w), g.path, g.last) };
      size = rw e (omega (arith, g.size));
      once = rw e g.once;
      within = rw e g.within;
      fresh = rw e g.fresh;
      marks = rw e g.marks;
    }

pub untold_text : (m q seen : List ℕ) (u n : ℕ) → field m n KIND ≡ 3
    → Unmet (after q) seen u (field m n PIECE) (field m n END) → Untold m q seen u n
untold_text m q seen u n h d = record { no = λ o on w f. let t = o.whole h in d.no (pieces_of m q u n) t.0 t.1 t.2 on w f }

-- ---- all nodes

pub once_at : (f : ℕ → List ℕ) (c n : ℕ) → n < c → Once (lists f c) → Once (f (suc n)) × ((p : ℕ) → In p (f (suc n)) → In p (lists f n) → ⊥)
unfolding lists
once_at f zero n h o = absurd (omega arith)
once_at f (suc c) n h o = by (ℕ_discrete n c) (once_part (f (suc c)) (lists f c) o) (once_at f c n)
  where
    by : Dec (n ≡ c) → Once (f (suc c)) × Once (lists f c) × ((x : ℕ) → In x (f (suc c)) → In x (lists f c) → ⊥)
        → (n < c → Once (lists f c) → Once (f (suc n)) × ((p : ℕ) → In p (f (suc n)) → In p (lists f n) → ⊥))
        → Once (f (suc n)) × ((p : ℕ) → In p (f (suc n)) → In p (lists f n) → ⊥)
    by (yes e) t g = rw e (t.0, t.2)
    by (no e) t g = g (omega arith) t.1

pub within_at : (f : ℕ → List ℕ) (u c n : ℕ) → n < c → Within u (lists f c) → Within u (f (suc n))
unfolding lists
within_at f u zero n h w = absurd (omega arith)
within_at f u (suc c) n h w = by (ℕ_discrete n c) (within_part u (f (suc c)) (lists f c) w) (within_at f u c n)
  where
    by : Dec (n ≡ c) → Within u (f (suc c)) × Within u (lists f c) → (n < c → Within u (lists f c) → Within u (f (suc n)))
        → Within u (f (suc n))
    by (yes e) t g = rw e t.0
    by (no e) t g = g (omega arith) t.1

-- nodes 1 to n are done, t pieces met, and these are marked
pub record Going (m q seen : List ℕ) (u n t : ℕ) : Type 0 where
  pub own : (k : ℕ) → 0 < k → k ≤ n → Own m q u k
  pub once : Once (lists (pieces_of m q u) n)
  pub within : Within u (lists (pieces_of m q u) n)
  pub size : length (lists (pieces_of m q u) n) ≡ t
  pub new : (p : ℕ) → In p (lists (pieces_of m q u) n) → at seen p ≢ 0
  pub only : (p : ℕ) → at seen p ≢ 0 → In p (lists (pieces_of m q u) n)

pub going_none : (m q seen : List ℕ) (u : ℕ) → ((p : ℕ) → at seen p ≡ 0) → Going m q seen u 0 0
unfolding lists
going_none m q seen u b =
    record {
      own = λ k z l. absurd (omega arith);
      once = tt;
      within = tt;
      size = refl;
      new = λ p i. absurd i;
      only = λ p h. absurd (h (b p));
    }

module _ {m q seen : List ℕ} {u n t : ℕ} (g : Going m q seen u n t) where
  pub going_few : t ≤ u
  going_few = omega (arith, g.size, pigeon u (lists (pieces_of m q u) n) g.once g.within)

  pub going_more : {seen' : List ℕ} {r : ℕ} → Told m q seen seen' u (suc n) r → Going m q seen' u (suc n) (t + r - 1)
  unfolding lists
  going_more {seen'} {r} a =
      record {
        own = λ k z l. own k z l (ℕ_discrete k (suc n));
        once = once_join (f (suc n)) (lists f n) a.once g.once (λ p i. out_of p (lists f n) (λ j. g.new p j (a.fresh p i)));
        within = within_join u (f (suc n)) (lists f n) a.within g.within;
        size = length-append (f (suc n)) (lists f n) ∙ omega (arith, a.size, g.size);
        new = λ p i. new p (in_split p (f (suc n)) (lists f n) i);
        only = λ p h. only p (a.marks.only p h);
      }
    where
      f : ℕ → List ℕ
      f = pieces_of m q u

      own : (k : ℕ) → 0 < k → k ≤ suc n → Dec (k ≡ suc n) → Own m q u k
      own k z l (yes e) = rw e a.own
      own k z l (no e) = g.own k z (omega arith)

      new : (p : ℕ) → In p (f (suc n)) ⊎ In p (lists f n) → at seen' p ≢ 0
      new p (inl i) = a.marks.new p i
      new p (inr i) = a.marks.kept p (g.new p i)

      only : (p : ℕ) → (at seen p ≢ 0) ⊎ In p (f (suc n)) → In p (f (suc n) ++ lists f n)
      only p (inl h) = in_right p (f (suc n)) (lists f n) (g.only p h)
      only p (inr i) = in_left p (f (suc n)) (lists f n) i

  pub deny_node : {c : ℕ} → n < c → Untold m q seen u (suc n) → ¬ Texts m q c u
  deny_node {c} h d s =
      let o = once_at (pieces_of m q u) c n h s.once in
      d.no (s.own (suc n) (omega arith) h) o.0 (within_at (pieces_of m q u) u c n h s.within) (λ p i. by p i (o.1 p i) (ℕ_discrete (at seen p) 0))
    where
      by : (p : ℕ) → In p (pieces_of m q u (suc n)) → (In p (lists (pieces_of m q u) n) → ⊥) → Dec (at seen p ≡ 0) → at seen p ≡ 0
      by p i f (yes e) = e
      by p i f (no e) = absurd (f (g.only p e))

  pub done_all : t ≡ u → Texts m q n u
  done_all e = record { own = g.own; once = g.once; within = g.within; all = λ p z l. by p z l (in_dec p (lists (pieces_of m q u) n)) }
    where
      by : (p : ℕ) → 0 < p → p ≤ u → In p (lists (pieces_of m q u) n) ⊎ Out p (lists (pieces_of m q u) n) → In p (lists (pieces_of m q u) n)
      by p z l (inl i) = i
      by p z l (inr o) = absurd (full u (lists (pieces_of m q u) n) g.once g.within (omega (arith, g.size)) p z l o)

  pub deny_all : Texts m q n u → t ≡ u
  deny_all s = omega (arith, going_few, g.size, cover u (lists (pieces_of m q u) n) s.all)
