-- What making a node does: every field of every other node stays, the new node has no links, and its own fields are what was asked for.
-- On lists of children: the new node has none, and is in no list.
-- Assumes nothing.
use Rattle.std.proofs.Common.{ℕ, suc, ◌≤◌, ◌<◌, ◌≡◌, refl, ◌≢◌, true, false, List, [], arith, length, eqb, ltb}
use Rattle.std.proofs.Math.Decide.{dec_lt}
use Rattle.theory.specs.Fn.{put, put_upd}
use Rattle.theory.specs.Kids.{created}
use Rattle.lent.specs.Mem.{NODES, slots, inside, field, put_field, KIND, PARENT, PREV, NEXT, FIRST, LAST, TIE, SPACE, NAME, MARK, START, COUNT, PIECE, END, DOCUMENT, ELEMENT, TEXT, COMMENT}
use Rattle.lent.proofs.Kit.{reads, length_store}
use Rattle.makers.specs.Make.{bare_links, bare_rest, bare, tagged, plain, tied, document, comment, text, copied, tag_of}
use Rattle.makers.specs.declared.make.Tag.{Tag}
use Rattle.arena.proofs.Lengths.{slots_same}
use Rattle.arena.proofs.Children.{Forest}

-- from m to m' node n is made
pub record Made (m m' : List ℕ) (n : ℕ) : Type 0 where
  pub size : length m' ≡ length m
  pub others : (k f : ℕ) → k ≢ n → ltb f 16 ≡ true → field m' k f ≡ field m k f
  pub parent : field m' n PARENT ≡ 0
  pub prev : field m' n PREV ≡ 0
  pub next : field m' n NEXT ≡ 0
  pub first : field m' n FIRST ≡ 0
  pub last : field m' n LAST ≡ 0

-- its other fields
pub record Fields (m : List ℕ) (n k : ℕ) (t : Tag) (p e : ℕ) : Type 0 where
  pub kind : field m n KIND ≡ k
  pub tie : field m n TIE ≡ 0
  pub space : field m n SPACE ≡ t.space
  pub name : field m n NAME ≡ t.name
  pub mark : field m n MARK ≡ t.mark
  pub start : field m n START ≡ t.start
  pub count : field m n COUNT ≡ t.count
  pub piece : field m n PIECE ≡ p
  pub end : field m n END ≡ e

-- no tag, and a tag that has only a number in its name's place, as a comment has
abbrev pub no_tag : Tag
no_tag = record { space = 0; name = 0; mark = 0; start = 0; count = 0 }

abbrev pub number_tag : ℕ → Tag
number_tag x = record { space = 0; name = x; mark = 0; start = 0; count = 0 }

module _ (m : List ℕ) (n : ℕ) (i : inside NODES m n ≡ true) where
  pub bare_made : (kind : ℕ) → Made m (bare m n kind) n
  unfolding bare bare_links bare_rest
  bare_made kind =
      record {
        size = simp length_store;
        others = λ k f d h. simp (reads, h);
        parent = simp (reads, i);
        prev = simp (reads, i);
        next = simp (reads, i);
        first = simp (reads, i);
        last = simp (reads, i);
      }

  pub bare_fields : (kind : ℕ) → Fields (bare m n kind) n kind no_tag 0 0
  unfolding bare bare_links bare_rest
  bare_fields kind =
      record {
        kind = simp (reads, i);
        tie = simp (reads, i);
        space = simp (reads, i);
        name = simp (reads, i);
        mark = simp (reads, i);
        start = simp (reads, i);
        count = simp (reads, i);
        piece = simp (reads, i);
        end = simp (reads, i);
      }

-- ---- stores to fields of the new node that are no links

module _ {m m' : List ℕ} {n : ℕ} (w : Made m m' n) (i : inside NODES m' n ≡ true) where
  pub tagged_made : (t : Tag) → Made m (tagged m' n t) n
  unfolding tagged
  tagged_made t =
      record {
        size = simp length_store w.size;
        others = λ k f d h. simp (reads, h) (w.others k f d h);
        parent = simp reads w.parent;
        prev = simp reads w.prev;
        next = simp reads w.next;
        first = simp reads w.first;
        last = simp reads w.last;
      }

  pub tagged_fields : {kind piece end : ℕ} {t₀ : Tag} (t : Tag) → Fields m' n kind t₀ piece end → Fields (tagged m' n t) n kind t piece end
  unfolding tagged
  tagged_fields t h =
      record {
        kind = simp reads h.kind;
        tie = simp reads h.tie;
        space = simp (reads, i);
        name = simp (reads, i);
        mark = simp (reads, i);
        start = simp (reads, i);
        count = simp (reads, i);
        piece = simp reads h.piece;
        end = simp reads h.end;
      }

-- one more field, that is no link
pub put_made : {m m' : List ℕ} {n : ℕ} → Made m m' n → (g v : ℕ) → ltb g 16 ≡ true → eqb g PARENT ≡ false → eqb g PREV ≡ false → eqb g NEXT ≡ false → eqb g FIRST ≡ false → eqb g LAST ≡ false
    → Made m (put_field m' n g v) n
put_made {m} {m'} {n} w g v t a b c d e =
    record {
      size = simp length_store w.size;
      others = λ k f q h. simp (reads, t, h) (w.others k f q h);
      parent = simp (reads, t, a) w.parent;
      prev = simp (reads, t, b) w.prev;
      next = simp (reads, t, c) w.next;
      first = simp (reads, t, d) w.first;
      last = simp (reads, t, e) w.last;
    }

-- ---- each kind of node

inside_same : (m m' : List ℕ) (n : ℕ) → length m' ≡ length m → inside NODES m n ≡ true → inside NODES m' n ≡ true
unfolding inside
inside_same m m' n e i = rw (slots_same m m' e) i

module _ (m : List ℕ) (n : ℕ) (i : inside NODES m n ≡ true) where
  in_bare : (kind : ℕ) → inside NODES (bare m n kind) n ≡ true
  in_bare kind = inside_same m (bare m n kind) n (bare_made m n i kind).size i

  pub document_made : Made m (document m n) n
  unfolding document
  document_made = bare_made m n i DOCUMENT

  pub document_fields : Fields (document m n) n DOCUMENT no_tag 0 0
  unfolding document
  document_fields = bare_fields m n i DOCUMENT

  pub plain_made : (t : Tag) → Made m (plain m n t) n
  unfolding plain
  plain_made t = tagged_made (bare_made m n i ELEMENT) (in_bare ELEMENT) t

  pub plain_fields : (t : Tag) → Fields (plain m n t) n ELEMENT t 0 0
  unfolding plain
  plain_fields t = tagged_fields (bare_made m n i ELEMENT) (in_bare ELEMENT) t (bare_fields m n i ELEMENT)

  -- a copy has the tag of the node copied, and with it shares the stored attributes
  pub copied_fields : (x : ℕ) → Fields (copied m n x) n ELEMENT (tag_of m x) 0 0
  unfolding copied
  copied_fields x = plain_fields (tag_of m x)

  pub comment_made : (x : ℕ) → Made m (comment m n x) n
  unfolding comment
  comment_made x = put_made (bare_made m n i COMMENT) NAME x refl refl refl refl refl refl

  pub comment_fields : (x : ℕ) → Fields (comment m n x) n COMMENT (number_tag x) 0 0
  unfolding comment
  comment_fields x =
      let h = bare_fields m n i COMMENT in
      let j = in_bare COMMENT in
      record {
        kind = simp reads h.kind;
        tie = simp reads h.tie;
        space = simp reads h.space;
        name = simp (reads, j);
        mark = simp reads h.mark;
        start = simp reads h.start;
        count = simp reads h.count;
        piece = simp reads h.piece;
        end = simp reads h.end;
      }

  pub text_made : (p : ℕ) → Made m (text m n p) n
  unfolding text
  text_made p = put_made (put_made (bare_made m n i TEXT) PIECE p refl refl refl refl refl refl) END p refl refl refl refl refl refl

  pub text_fields : (p : ℕ) → Fields (text m n p) n TEXT no_tag p p
  unfolding text
  text_fields p =
      let h = bare_fields m n i TEXT in
      let j = in_bare TEXT in
      record {
        kind = simp reads h.kind;
        tie = simp reads h.tie;
        space = simp reads h.space;
        name = simp reads h.name;
        mark = simp reads h.mark;
        start = simp reads h.start;
        count = simp reads h.count;
        piece = simp (reads, j);
        end = simp (reads, j);
      }

-- a template and its contents: only these two fields change
pub tied_field : (m : List ℕ) (n c k f : ℕ) → ltb f 16 ≡ true → eqb TIE f ≡ false → field (tied m n c) k f ≡ field m k f
unfolding tied
tied_field m n c k f h d = simp (reads, h, d)

pub tied_other : (m : List ℕ) (n c k f : ℕ) → ltb f 16 ≡ true → k ≢ n → k ≢ c → field (tied m n c) k f ≡ field m k f
unfolding tied
tied_other m n c k f h d e = simp (reads, h)

pub tied_both : (m : List ℕ) (n c : ℕ) → inside NODES m n ≡ true → inside NODES m c ≡ true → n ≢ c → (field (tied m n c) n TIE ≡ c) × (field (tied m n c) c TIE ≡ n)
unfolding tied
tied_both m n c i j d = (simp (reads, i), simp (reads, j))

-- ---- on lists of children

pub made_children : {m m' : List ℕ} {c : ℕ} {ks : ℕ → List ℕ} → Forest m c ks → suc c < slots NODES m → Made m m' (suc c) → Forest m' (suc c) (put ks (suc c) [])
made_children {m} {m'} {c} {ks} f h w =
    record {
      held = rw (slots_same m m' w.size) h;
      parents = λ n z l. par n z l (dec_lt c n);
      are =
          created f.are f.parents
          (record { same = λ y d. (w.others y PARENT d refl, w.others y FIRST d refl, w.others y LAST d refl, w.others y NEXT d refl, w.others y PREV d refl); bare = (w.parent, w.first, w.last, w.next, w.prev) })
          (put_upd ks (suc c) []).new
          (λ q l. (put_upd ks (suc c) []).old q (omega arith));
    }
  where
    par : (n : ℕ) → 0 < n → n ≤ suc c → Dec (c < n) → field m' n PARENT ≤ suc c
    par n z l (yes d) = let e : n ≡ suc c = omega arith in rw (e, w.parent) (omega arith)
    par n z l (no d) = rw (w.others n PARENT (omega arith) refl) (omega (arith, f.parents n z (omega arith)))
