-- One more element, without contents: it is what its kind asks for. And a copy of a formatting entry, which shares the attributes.
-- Assumes nothing.
use Rattle.std.specs.Prelude.{ℕ, ◌<◌, ◌≡◌, ◌≢◌, Bool, true, false, ◌&&◌, List, eqb, Option}
use Rattle.std.proofs.Common.{sym, ◌∙◌, arith, eq-eqb}
use Rattle.theory.specs.Fn.{at}
use Rattle.names.specs.Space as space
use Rattle.names.specs.Tag as tag
use Rattle.names.specs.Sets.{is_in, Formatting}
use Rattle.lent.specs.Mem.{NODES, slots, field, SPACE, NAME, ELEMENT}
use Rattle.makers.specs.Make.{is_template, plain, tag_of}
use Rattle.makers.specs.declared.make.Tag.{Tag}
use Rattle.makers.proofs.Made.{Made, Fields, plain_made, plain_fields}
use Rattle.nodes.specs.Nodes.{Kind}
use Rattle.state.specs.declared.Context.{Context}
use Rattle.sound.specs.Sound.{Sound, MARKER}
use Rattle.names.proofs.Members.{formatting_plain}
use Rattle.kept.specs.Room.{held_in}
use Rattle.kept.specs.Fresh.{Allowed, fresh_element}

not_template : (t : Tag) → is_template t ≡ false → t.space ≡ space.html → t.name ≡ tag.template → ⊥
unfolding is_template
not_template t e a b =
    let z : ◌≡◌ {A = Bool} true false = sym (rw (eq-eqb t.space 0 a, eq-eqb t.name tag.template b)) ∙ e in
    let n : ◌≡◌ {A = ℕ} 0 1 = cc in
    omega arith

-- node n is made with the tag t
module _ (m : List ℕ) (n : ℕ) (t : Tag) (h : n < slots NODES m) where
  pub plain_is : Made m (plain m n t) n
  plain_is = plain_made m n (held_in NODES m n h) t

  pub plain_has : Fields (plain m n t) n ELEMENT t 0 0
  plain_has = plain_fields m n (held_in NODES m n h) t

  pub plain_kind : {q : List ℕ} {c u : ℕ} → is_template t ≡ false → Allowed q u t → Kind (plain m n t) q c u n
  plain_kind e may =
      let r = plain_has in
      fresh_element
      (record { kind = r.kind; parent = plain_is.parent; space = r.space; name = r.name; mark = r.mark; start = r.start; count = r.count; piece = r.piece; end = r.end })
      may
      (record { tied = λ y. absurd (not_template t e (sym r.space ∙ y.space) (sym r.name ∙ y.name)); untied = λ y. r.tie })

-- ---- the tag of an entry

-- node e is an HTML element with a formatting name, and its tag is one that a new element may have
pub record Copyable (m q : List ℕ) (u e : ℕ) : Type 0 where
  pub allowed : Allowed q u (tag_of m e)
  pub single : is_template (tag_of m e) ≡ false
  pub html : (tag_of m e).space ≡ space.html
  pub named : is_in Formatting space.html (tag_of m e).name ≡ true

pub single_name : (ns name : ℕ) → eqb name tag.template ≡ false → (eqb ns 0 && eqb name tag.template) ≡ false
single_name ns name e = rw e (by (eqb ns 0))
  where
    by : (b : Bool) → (b && false) ≡ false
    by true = cc
    by false = cc

module _ {m p q l f t : List ℕ} {c v u d k s foster head : ℕ} {x : Option Context} (o : Sound m p q l f t c v u d k s foster head x) where
  pub entry_copyable : (i : ℕ) → i < k → at f i ≢ MARKER → Copyable m q u (at f i)
  unfolding tag_of is_template
  entry_copyable i b z =
      let e = o.entries.entry i b in
      let g = (o.tree.kinds.kind (at f i) (e.used z).0 (e.used z).1).element (e.html z).0 in
      record {
        allowed = record { tag = g.tag; few = g.span.few; used = g.span.used; distinct = g.span.distinct };
        single = single_name (field m (at f i) SPACE) (field m (at f i) NAME) (formatting_plain (field m (at f i) NAME) (e.name z)).no_template;
        html = (e.html z).1;
        named = e.name z;
      }
