-- A new comment, text, element or contents is what its kind asks for.
-- Assumes nothing.
use Rattle.std.specs.Prelude.{ℕ, suc, ◌+◌, ◌≤◌, ◌<◌, ◌≡◌, List}
use Rattle.std.proofs.Common.{arith}
use Rattle.std.proofs.Math.Decide.{ℕ_discrete}
use Rattle.lent.specs.Mem.{field, KIND, PARENT, FIRST, LAST, TIE, SPACE, NAME, MARK, START, COUNT, PIECE, END, ELEMENT, TEXT, COMMENT, CONTENTS}
use Rattle.makers.proofs.Made.{Made, Fields, no_tag, number_tag}
use Rattle.makers.specs.declared.make.Tag as made
use Rattle.nodes.specs.Nodes as nodes
use Rattle.nodes.specs.Nodes.{SPARE, Clear, Distinct, Ties, Kind}

-- ---- fields that are 0, one by one

pub clear_none : (m : List ℕ) (x a : ℕ) → Clear m x a a
clear_none m x a = record { zero = λ f h k. absurd (omega arith) }

pub clear_more : {m : List ℕ} {x b : ℕ} (a : ℕ) → field m x a ≡ 0 → Clear m x (suc a) b → Clear m x a b
clear_more {m} {x} {b} a e w = record { zero = λ f h k. by f h k (ℕ_discrete f a) }
  where
    by : (f : ℕ) → a ≤ f → f < b → Dec (f ≡ a) → field m x f ≡ 0
    by f h k (yes d) = rw d e
    by f h k (no d) = w.zero f (omega arith) k

module _ {m m' q : List ℕ} {c u x : ℕ} (w : Made m m' x) where
  pub fresh_comment : (number : ℕ) → Fields m' x COMMENT (number_tag number) 0 0 → Kind m' q c u x
  fresh_comment number h =
      let e = h.kind in
      record {
        known = (omega arith, omega arith);
        document = λ d. absurd (omega arith);
        element = λ d. absurd (omega arith);
        text = λ d. absurd (omega arith);
        comment =
            λ d.
            record {
              front = clear_more FIRST w.first (clear_more LAST w.last (clear_more TIE h.tie (clear_more SPACE h.space (clear_none m' x NAME))));
              back =
                  clear_more MARK h.mark
                  (clear_more START h.start
                  (clear_more COUNT h.count (clear_more PIECE h.piece (clear_more END h.end (clear_none m' x SPARE)))));
            };
        contents = λ d. absurd (omega arith);
      }

  pub fresh_text : (i : ℕ) → Fields m' x TEXT no_tag i i → Kind m' q c u x
  fresh_text i h =
      let e = h.kind in
      record {
        known = (omega arith, omega arith);
        document = λ d. absurd (omega arith);
        element = λ d. absurd (omega arith);
        text =
            λ d.
            clear_more FIRST w.first
            (clear_more LAST w.last
            (clear_more TIE h.tie
            (clear_more SPACE h.space
            (clear_more NAME h.name (clear_more MARK h.mark (clear_more START h.start (clear_more COUNT h.count (clear_none m' x PIECE))))))));
        comment = λ d. absurd (omega arith);
        contents = λ d. absurd (omega arith);
      }

-- ---- elements

-- node x is an element with the tag g, and has no parent
pub record Tagged (m : List ℕ) (x : ℕ) (g : made.Tag) : Type 0 where
  pub kind : field m x KIND ≡ ELEMENT
  pub parent : field m x PARENT ≡ 0
  pub space : field m x SPACE ≡ g.space
  pub name : field m x NAME ≡ g.name
  pub mark : field m x MARK ≡ g.mark
  pub start : field m x START ≡ g.start
  pub count : field m x COUNT ≡ g.count
  pub piece : field m x PIECE ≡ 0
  pub end : field m x END ≡ 0

-- a tag that an element may have
pub record Allowed (q : List ℕ) (u : ℕ) (g : made.Tag) : Type 0 where
  pub tag : nodes.Tag g.space g.name g.mark
  pub few : g.count ≤ 16
  pub used : g.start + g.count ≤ u
  pub distinct : Distinct q g.start g.count

pub fresh_element : {m q : List ℕ} {c u x : ℕ} {g : made.Tag} → Tagged m x g → Allowed q u g → Ties m c x → Kind m q c u x
fresh_element {m} {x = x} w h t =
    let e = w.kind in
    record {
      known = (omega arith, omega arith);
      document = λ d. absurd (omega arith);
      element =
          λ d.
          record {
            tag = rw (w.space, w.name, w.mark) h.tag;
            span =
                record {
                  few = rw w.count h.few;
                  used = rw (w.start, w.count) h.used;
                  distinct = rw (w.start, w.count) h.distinct;
                };
            ties = t;
            rooted = record { root = λ r. absurd (omega (arith, w.parent)) };
            clear = clear_more PIECE w.piece (clear_more END w.end (clear_none m x SPARE));
          };
      text = λ d. absurd (omega arith);
      comment = λ d. absurd (omega arith);
      contents = λ d. absurd (omega arith);
    }

pub fresh_contents : {m q : List ℕ} {c u x : ℕ} → field m x KIND ≡ CONTENTS → nodes.Contents m c x → Kind m q c u x
fresh_contents e w =
    record {
      known = (omega arith, omega arith);
      document = λ d. absurd (omega arith);
      element = λ d. absurd (omega arith);
      text = λ d. absurd (omega arith);
      comment = λ d. absurd (omega arith);
      contents = λ d. w;
    }
