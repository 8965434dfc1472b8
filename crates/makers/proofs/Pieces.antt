-- The pieces of a text node as a list: a new text has one piece, an added piece is the last, and the pieces of other texts stay.
-- Assumes nothing.
use Rattle.std.proofs.Common.{ℕ, ◌≡◌, refl, sym, ap, ◌∙◌, ◌≢◌, true, List, [], ◌∷◌, ◌++◌, ltb}
use Rattle.theory.specs.Fn.{In}
use Rattle.theory.specs.Kids.{lst}
use Rattle.theory.specs.Pigeon.{Once}
use Rattle.theory.specs.Path.{Path, path_same, path_add, lst_snoc}
use Rattle.lent.specs.Mem.{NODES, PIECES, inside, load, field, put_field, PIECE, END}
use Rattle.lent.proofs.Kit.{reads}
use Rattle.makers.specs.Make.{piece, piece_after, text}
use Rattle.makers.proofs.Made.{text_made, text_fields}

-- the piece after piece i
abbrev pub after : List ℕ → ℕ → ℕ
after p = λ i. load PIECES p i 1

-- the pieces of text node n are xs: one at least, met from the first one by `after`, the last being the one that the node names
pub record Pieces (m p : List ℕ) (n : ℕ) (xs : List ℕ) : Type 0 where
  pub some : xs ≢ []
  pub path : Path (after p) (field m n PIECE) xs 0
  pub last : lst 0 xs ≡ field m n END

-- ---- a piece is made, or added behind piece e: what changes in the pieces' memory

module _ (p : List ℕ) (i number : ℕ) where
  pub piece_other : (k f : ℕ) → k ≢ i → ltb f 2 ≡ true → load PIECES (piece p i number) k f ≡ load PIECES p k f
  unfolding piece
  piece_other k f d h = simp (reads, h)

  pub piece_text : inside PIECES p i ≡ true → load PIECES (piece p i number) i 0 ≡ number
  unfolding piece
  piece_text h = simp (reads, h)

  pub piece_next : inside PIECES p i ≡ true → load PIECES (piece p i number) i 1 ≡ 0
  unfolding piece
  piece_next h = simp (reads, h)

module _ (p : List ℕ) (e i number : ℕ) (ie : inside PIECES p e ≡ true) (ii : inside PIECES p i ≡ true) (d : e ≢ i) where
  -- text numbers: the new piece has its own, and every other piece keeps its own
  pub added_text : load PIECES (piece_after p e i number) i 0 ≡ number
  unfolding piece_after piece
  added_text = simp (reads, ii)

  pub added_texts : (k : ℕ) → k ≢ i → load PIECES (piece_after p e i number) k 0 ≡ load PIECES p k 0
  unfolding piece_after piece
  added_texts k h = simp reads

  added_next : after (piece_after p e i number) e ≡ i
  unfolding piece_after piece
  added_next = simp (reads, ie)

  added_end : after (piece_after p e i number) i ≡ 0
  unfolding piece_after piece
  added_end = simp (reads, ii)

  added_rest : (z : ℕ) → z ≢ e → z ≢ i → after (piece_after p e i number) z ≡ after p z
  unfolding piece_after piece
  added_rest z a b = simp reads

-- ---- on lists

pub text_pieces : (m p : List ℕ) (n i number : ℕ) → inside NODES m n ≡ true → inside PIECES p i ≡ true → i ≢ 0 → Pieces (text m n i) (piece p i number) n (i ∷ [])
text_pieces m p n i number h g z =
    let t = text_fields m n h i in
    record { some = λ q. z (ap (lst 0) q); path = (t.piece, z, piece_next p i number g); last = sym t.end }

pub text_pieces_other : (m p : List ℕ) (n i number k : ℕ) (ys : List ℕ) → inside NODES m n ≡ true → k ≢ n → ¬ In i ys → Pieces m p k ys → Pieces (text m n i) (piece p i number) k ys
text_pieces_other m p n i number k ys h d o w =
    let t = text_made m n h i in
    record {
      some = w.some;
      path = rw (t.others k PIECE d refl) (path_same (after p) (after (piece p i number)) (field m k PIECE) ys 0 (λ z j. piece_other p i number z 1 (λ q. o (rw q at j)) refl) w.path);
      last = w.last ∙ sym (t.others k END d refl);
    }

module _ (m p : List ℕ) (n i number : ℕ) (xs : List ℕ) (w : Pieces m p n xs) (once : Once xs) (new : ¬ In i xs) (z : i ≢ 0)
    (ie : inside PIECES p (field m n END) ≡ true) (ii : inside PIECES p i ≡ true) (ni : inside NODES m n ≡ true) (d : field m n END ≢ i) where
  pub added_pieces : Pieces (put_field m n END i) (piece_after p (field m n END) i number) n (xs ++ i ∷ [])
  added_pieces =
      record {
        some = λ q. z (sym (lst_snoc 0 xs i) ∙ ap (lst 0) q);
        path = rw first (by xs once w.last new w.path w.some);
        last = lst_snoc 0 xs i ∙ sym end;
      }
    where
      first : field (put_field m n END i) n PIECE ≡ field m n PIECE
      first = simp reads

      end : field (put_field m n END i) n END ≡ i
      end = simp (reads, ni)

      by : (ys : List ℕ) → Once ys → lst 0 ys ≡ field m n END → ¬ In i ys → Path (after p) (field m n PIECE) ys 0 → ys ≢ [] → Path (after (piece_after p (field m n END) i number)) (field m n PIECE) (ys ++ i ∷ []) 0
      by [] o l a q s = absurd (s refl)
      by (y ∷ ys) o l a q s =
          path_add (after p) (after (piece_after p (field m n END) i number)) (field m n END) i z (added_next p (field m n END) i number ie ii d) (added_end p (field m n END) i number ie ii d)
          (added_rest p (field m n END) i number ie ii d) (field m n PIECE) y ys o l a q

  -- another text, which has neither the new piece nor the last one of n
  pub added_pieces_other : (k : ℕ) (ys : List ℕ) → k ≢ n → ¬ In i ys → ¬ In (field m n END) ys → Pieces m p k ys → Pieces (put_field m n END i) (piece_after p (field m n END) i number) k ys
  added_pieces_other k ys h a b v =
      record {
        some = v.some;
        path =
            rw first
            (path_same (after p) (after (piece_after p (field m n END) i number)) (field m k PIECE) ys 0 (λ x j. added_rest p (field m n END) i number ie ii d x (λ q. b (rw q at j)) (λ q. a (rw q at j))) v.path);
        last = v.last ∙ sym end;
      }
    where
      first : field (put_field m n END i) k PIECE ≡ field m k PIECE
      first = simp reads

      end : field (put_field m n END i) k END ≡ field m k END
      end = simp reads
