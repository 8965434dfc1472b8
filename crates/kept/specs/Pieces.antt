-- The chains of pieces of the text nodes, where one node gets another chain or a node is new: the other chains stay, and each used
-- piece is in exactly one of them. A new node that is no text, a new text with one new piece, and a text with one more.
-- Assumes nothing.
use Rattle.std.specs.Prelude.{ℕ, suc, ◌≤◌, ◌<◌, ◌≡◌, refl, ◌≢◌, ◌⊎◌, true, List, [], ◌∷◌, ◌++◌}
use Rattle.std.proofs.Common.{sym, ◌∙◌, inl, inr, arith}
use Rattle.std.proofs.Math.Decide.{ℕ_discrete, dec_lt}
use Rattle.theory.specs.Fn.{In, put, put_upd}
use Rattle.theory.specs.Kids.{lst, in_left, in_right, in_split, lst_in}
use Rattle.theory.specs.Pigeon.{Once, Within}
use Rattle.theory.specs.Count.{once_join, within_join}
use Rattle.theory.specs.Path.{Path, path_same}
use Rattle.lent.specs.Mem.{NODES, PIECES, inside, field, put_field, KIND, PIECE, END, TEXT}
use Rattle.lent.proofs.Kit.{reads}
use Rattle.makers.specs.Make.{piece, piece_after, text}
use Rattle.makers.proofs.Made.{Made, text_made, text_fields}
use Rattle.makers.proofs.Pieces.{Pieces, piece_other, text_pieces, added_pieces}
use Rattle.texts.specs.Texts.{after}
use Rattle.texts.specs.Words.{Words}

-- the nodes 1 to c have the kinds, first and last pieces that they had
pub record Texts (m m' : List ℕ) (c : ℕ) : Type 0 where
  pub kind : (n : ℕ) → 0 < n → n ≤ c → field m' n KIND ≡ field m n KIND
  pub piece : (n : ℕ) → 0 < n → n ≤ c → field m' n PIECE ≡ field m n PIECE
  pub end : (n : ℕ) → 0 < n → n ≤ c → field m' n END ≡ field m n END

pub within_more : (u w : ℕ) (xs : List ℕ) → u ≤ w → Within u xs → Within w xs
within_more u w [] h k = tt
within_more u w (x ∷ xs) h k = (k.0, omega arith, within_more u w xs h k.2)

pub within_in : (u : ℕ) (xs : List ℕ) (y : ℕ) → Within u xs → In y xs → (0 < y) × (y ≤ u)
within_in u [] y w x'' = elim x'' [ ]
within_in u (x ∷ xs) y w (inl e) = rw e (w.0, w.1)
within_in u (x ∷ xs) y w (inr i) = within_in u xs y w.2 i

-- nothing changes but other fields
pub words_same : {m m' p : List ℕ} {c v : ℕ} → Words m p c v → Texts m m' c → Words m' p c v
words_same {m} {m'} {p} {c} {v} w t =
    record {
      of = w.of;
      text = λ n z h k. rw (t.piece n z h, t.end n z h) (w.text n z h (sym (t.kind n z h) ∙ k));
      other = λ n z h k. w.other n z h (rw (t.kind n z h) at k);
      used = w.used;
      once = w.once;
      one = w.one;
      all = w.all;
    }

-- node n gets the chain ys
pub record Chain (m p : List ℕ) (c v : ℕ) (of : ℕ → List ℕ) (m' p' : List ℕ) (c' v' n : ℕ) (ys : List ℕ) : Type 0 where
  pub some : 0 < n
  pub node : n ≤ c'
  pub more : v ≤ v'
  -- the other nodes and their chains
  pub old : (k : ℕ) → 0 < k → k ≤ c' → k ≢ n → k ≤ c
  pub kind : (k : ℕ) → 0 < k → k ≤ c → k ≢ n → field m' k KIND ≡ field m k KIND
  pub piece : (k : ℕ) → 0 < k → k ≤ c → k ≢ n → field m' k PIECE ≡ field m k PIECE
  pub end : (k : ℕ) → 0 < k → k ≤ c → k ≢ n → field m' k END ≡ field m k END
  pub next : (k z : ℕ) → 0 < k → k ≤ c → k ≢ n → In z (of k) → after p' z ≡ after p z
  pub apart : (k z : ℕ) → 0 < k → k ≤ c → k ≢ n → In z ys → In z (of k) → ⊥
  -- this one
  pub text : field m' n KIND ≡ TEXT → (ys ≢ []) × Path (after p') (field m' n PIECE) ys 0 × (lst 0 ys ≡ field m' n END)
  pub other : field m' n KIND ≢ TEXT → ys ≡ []
  pub used : Within v' ys
  pub once : Once ys
  pub all : (z : ℕ) → 0 < z → z ≤ v' → In z ys ⊎ ((k : ℕ) × (0 < k) × (k ≤ c) × (k ≢ n) × (k ≤ c') × In z (of k))

pub words_put : {m p m' p' : List ℕ} {c v c' v' n : ℕ} {ys : List ℕ} (w : Words m p c v) → Chain m p c v w.of m' p' c' v' n ys → Words m' p' c' v'
words_put {m} {p} {m'} {p'} {c} {v} {c'} {v'} {n} {ys} w h =
    record {
      of = of';
      text = λ k z l. text k z l (ℕ_discrete k n);
      other = λ k z l. other k z l (ℕ_discrete k n);
      used = λ k z l. used k z l (ℕ_discrete k n);
      once = λ k z l. once k z l (ℕ_discrete k n);
      one = λ a b y z g l. one a b y z g l (ℕ_discrete a n) (ℕ_discrete b n);
      all = λ y z l. all y (h.all y z l);
    }
  where
    of' : ℕ → List ℕ
    of' = put w.of n ys

    new : of' n ≡ ys
    new = (put_upd w.of n ys).new

    old : (k : ℕ) → k ≢ n → of' k ≡ w.of k
    old = (put_upd w.of n ys).old

    text : (k : ℕ) → 0 < k → k ≤ c' → Dec (k ≡ n) → field m' k KIND ≡ TEXT → (of' k ≢ []) × Path (after p') (field m' k PIECE) (of' k) 0 × (lst 0 (of' k) ≡ field m' k END)
    text k z l (yes e) g = rw (e, new) (h.text (rw e at g))
    text k z l (no e) g =
        let b = h.old k z l e in
        let t = w.text k z b (sym (h.kind k z b e) ∙ g) in
        rw (old k e, h.piece k z b e, h.end k z b e)
        (t.0, path_same (after p) (after p') (field m k PIECE) (w.of k) 0 (λ y i. h.next k y z b e i) t.1, t.2)

    other : (k : ℕ) → 0 < k → k ≤ c' → Dec (k ≡ n) → field m' k KIND ≢ TEXT → of' k ≡ []
    other k z l (yes e) g = rw (e, new) (h.other (rw e at g))
    other k z l (no e) g = let b = h.old k z l e in old k e ∙ w.other k z b (rw (h.kind k z b e) at g)

    used : (k : ℕ) → 0 < k → k ≤ c' → Dec (k ≡ n) → Within v' (of' k)
    used k z l (yes e) = rw (e, new) h.used
    used k z l (no e) = rw (old k e) (within_more v v' (w.of k) h.more (w.used k z (h.old k z l e)))

    once : (k : ℕ) → 0 < k → k ≤ c' → Dec (k ≡ n) → Once (of' k)
    once k z l (yes e) = rw (e, new) h.once
    once k z l (no e) = rw (old k e) (w.once k z (h.old k z l e))

    one : (a b y : ℕ) → 0 < a → a < b → b ≤ c' → Dec (a ≡ n) → Dec (b ≡ n) → In y (of' a) → In y (of' b) → ⊥
    one a b y z g l (yes e) (yes d) i j = omega arith
    one a b y z g l (yes e) (no d) i j = h.apart b y (omega arith) (h.old b (omega arith) l d) d (rw (e, new) at i) (rw (old b d) at j)
    one a b y z g l (no e) (yes d) i j = h.apart a y z (h.old a z (omega arith) e) e (rw (d, new) at j) (rw (old a e) at i)
    one a b y z g l (no e) (no d) i j = w.one a b y z g (h.old b (omega arith) l d) (rw (old a e) at i) (rw (old b d) at j)

    all : (y : ℕ) → In y ys ⊎ ((k : ℕ) × (0 < k) × (k ≤ c) × (k ≢ n) × (k ≤ c') × In y (w.of k)) → (k : ℕ) × (0 < k) × (k ≤ c') × In y (of' k)
    all y (inl i) = (n, h.some, h.node, rw new i)
    all y (inr t) = (t.0, t.1, t.4, rw (old t.0 t.3) t.5)

-- ---- the three changes

-- where a piece is, of the nodes but n
elsewhere : {m p : List ℕ} {c v : ℕ} (w : Words m p c v) (n : ℕ) {c' : ℕ} → c ≤ c' → c < n → (z : ℕ) → 0 < z → z ≤ v
    → (k : ℕ) × (0 < k) × (k ≤ c) × (k ≢ n) × (k ≤ c') × In z (w.of k)
elsewhere w n le h z a b = let t = w.all z a b in (t.0, t.1, t.2, omega (arith, t.2), omega (arith, t.2), t.3)

-- a new node that is no text
pub words_other : {m p m' : List ℕ} {c v : ℕ} → Words m p c v → Texts m m' c → field m' (suc c) KIND ≢ TEXT → Words m' p (suc c) v
words_other {m} {p} {m'} {c} {v} w t d =
    words_put {n = suc c} {ys = []} w
    (record {
      some = omega arith;
      node = omega arith;
      more = omega arith;
      old = λ k z l e. omega arith;
      kind = λ k z l e. t.kind k z l;
      piece = λ k z l e. t.piece k z l;
      end = λ k z l e. t.end k z l;
      next = λ k y z l e i. refl;
      apart = λ k y z l e i j. i;
      text = λ e. absurd (d e);
      other = λ e. refl;
      used = tt;
      once = tt;
      all = λ y z l. inr (elsewhere w (suc c) (omega arith) (omega arith) y z l);
    })

-- a new text with the new piece alone
pub words_text : {m p : List ℕ} {c v : ℕ} (number : ℕ) → Words m p c v → inside NODES m (suc c) ≡ true → inside PIECES p (suc v) ≡ true
    → Words (text m (suc c) (suc v)) (piece p (suc v) number) (suc c) (suc v)
words_text {m} {p} {c} {v} number w hn hp =
    words_put {n = suc c} {ys = suc v ∷ []} w
    (record {
      some = omega arith;
      node = omega arith;
      more = omega arith;
      old = λ k z l e. omega arith;
      kind = λ k z l e. made.others k KIND e refl;
      piece = λ k z l e. made.others k PIECE e refl;
      end = λ k z l e. made.others k END e refl;
      next = λ k y z l e i. piece_other p (suc v) number y 1 (let b = within_in v (w.of k) y (w.used k z l) i in omega arith) refl;
      apart = λ k y z l e i j. apart k y z l i j;
      text = λ e. (is.some, is.path, is.last);
      other = λ e. absurd (e (text_fields m (suc c) hn (suc v)).kind);
      used = (omega arith, omega arith, tt);
      once = (tt, tt);
      all = λ y z l. all y z l (ℕ_discrete y (suc v));
    })
  where
    made : Made m (text m (suc c) (suc v)) (suc c)
    made = text_made m (suc c) hn (suc v)

    is : Pieces (text m (suc c) (suc v)) (piece p (suc v) number) (suc c) (suc v ∷ [])
    is = text_pieces m p (suc c) (suc v) number hn hp (omega arith)

    apart : (k y : ℕ) → 0 < k → k ≤ c → (y ≡ suc v) ⊎ ⊥ → In y (w.of k) → ⊥
    apart k y z l (inl e) j = let b = within_in v (w.of k) y (w.used k z l) j in omega arith
    apart k y z l (inr i) j = i

    all : (y : ℕ) → 0 < y → y ≤ suc v → Dec (y ≡ suc v)
        → ((y ≡ suc v) ⊎ ⊥) ⊎ ((k : ℕ) × (0 < k) × (k ≤ c) × (k ≢ suc c) × (k ≤ suc c) × In y (w.of k))
    all y z l (yes e) = inl (inl e)
    all y z l (no e) = inr (elsewhere w (suc c) (omega arith) (omega arith) y z (omega arith))

-- one more piece, at the end of text n
next_stays : (p : List ℕ) (e i number z : ℕ) → z ≢ e → z ≢ i → after (piece_after p e i number) z ≡ after p z
unfolding piece_after piece
next_stays p e i number z a b = simp reads

lst_some : (xs : List ℕ) → xs ≢ [] → In (lst 0 xs) xs
lst_some [] h = absurd (h refl)
lst_some (x ∷ xs) h = lst_in x xs

module _ {m p : List ℕ} {c v : ℕ} (number : ℕ) (w : Words m p c v) (n : ℕ) (nz : 0 < n) (nc : n ≤ c) (k : field m n KIND ≡ TEXT)
    (hn : inside NODES m n ≡ true) (hp : (i : ℕ) → i ≤ suc v → inside PIECES p i ≡ true) where
  chain : Pieces m p n (w.of n)
  chain = let t = w.text n nz nc k in record { some = t.0; path = t.1; last = t.2 }

  end_in : In (field m n END) (w.of n)
  end_in = rw chain.last at (lst_some (w.of n) chain.some)

  end_used : (0 < field m n END) × (field m n END ≤ v)
  end_used = within_in v (w.of n) (field m n END) (w.used n nz nc) end_in

  fresh : (k : ℕ) → 0 < k → k ≤ c → ¬ In (suc v) (w.of k)
  fresh k z l i = let b = within_in v (w.of k) (suc v) (w.used k z l) i in omega arith

  -- the chains of two nodes
  two : (a b y : ℕ) → 0 < a → a ≤ c → 0 < b → b ≤ c → a ≢ b → In y (w.of a) → In y (w.of b) → ⊥
  two a b y az ac bz bc d i j = by (dec_lt a b)
    where
      by : Dec (a < b) → ⊥
      by (yes h) = w.one a b y az h bc i j
      by (no h) = w.one b a y bz (omega arith) ac j i

  pub words_joined : Words (put_field m n END (suc v)) (piece_after p (field m n END) (suc v) number) c (suc v)
  words_joined =
      words_put {n = n} {ys = w.of n ++ suc v ∷ []} w
      (record {
        some = nz;
        node = nc;
        more = omega arith;
        old = λ k z l e. l;
        kind = λ k z l e. simp reads;
        piece = λ k z l e. simp reads;
        end = λ k z l e. simp reads;
        next =
            λ k y z l e i.
            next_stays p (field m n END) (suc v) number y (λ q. two k n y z l nz nc e i (rw q end_in)) (λ q. fresh k z l (rw q at i));
        apart = λ k y z l e i j. apart k y z l e (in_split y (w.of n) (suc v ∷ []) i) j;
        text = λ e. (is.some, is.path, is.last);
        other = λ e. absurd (e (kind_stays ∙ k));
        used = within_join (suc v) (w.of n) (suc v ∷ []) (within_more v (suc v) (w.of n) (omega arith) (w.used n nz nc)) (omega arith, omega arith, tt);
        once = once_join (w.of n) (suc v ∷ []) (w.once n nz nc) (tt, tt) (λ y i. (λ e. fresh n nz nc (rw e i), tt));
        all = λ y z l. all y z l (ℕ_discrete y (suc v));
      })
    where
      kind_stays : field (put_field m n END (suc v)) n KIND ≡ field m n KIND
      kind_stays = simp reads

      is : Pieces (put_field m n END (suc v)) (piece_after p (field m n END) (suc v) number) n (w.of n ++ suc v ∷ [])
      is =
          added_pieces m p n (suc v) number (w.of n) chain (w.once n nz nc) (fresh n nz nc) (omega arith) (hp (field m n END) (omega (arith, end_used)))
          (hp (suc v) (omega arith)) hn (omega (arith, end_used))

      apart : (k y : ℕ) → 0 < k → k ≤ c → k ≢ n → In y (w.of n) ⊎ In y (suc v ∷ []) → In y (w.of k) → ⊥
      apart k y z l e (inl i) j = two k n y z l nz nc e j i
      apart k y z l e (inr (inl i)) j = fresh k z l (rw i at j)
      apart k y z l e (inr (inr i)) j = i

      all : (y : ℕ) → 0 < y → y ≤ suc v → Dec (y ≡ suc v)
          → In y (w.of n ++ suc v ∷ []) ⊎ ((k : ℕ) × (0 < k) × (k ≤ c) × (k ≢ n) × (k ≤ c) × In y (w.of k))
      all y z l (yes e) = inl (in_right y (w.of n) (suc v ∷ []) (inl e))
      all y z l (no e) = let t = w.all y z (omega arith) in by t.0 t.1 t.2 t.3 (ℕ_discrete t.0 n)
        where
          by : (k : ℕ) → 0 < k → k ≤ c → In y (w.of k) → Dec (k ≡ n)
              → In y (w.of n ++ suc v ∷ []) ⊎ ((k : ℕ) × (0 < k) × (k ≤ c) × (k ≢ n) × (k ≤ c) × In y (w.of k))
          by k kz kc i (yes d) = inl (in_left y (w.of n) (suc v ∷ []) (rw d at i))
          by k kz kc i (no d) = inr (k, kz, kc, d, kc, i)
