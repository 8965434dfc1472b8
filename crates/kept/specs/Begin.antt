-- A begin that is done leaves a sound state, whatever the lent bytes held before.
-- Assumes nothing.
use Rattle.std.specs.Prelude.{ℕ, ◌≤◌, ◌<◌, min, ◌≡◌, ◌≢◌, Bool, true, false, cond, not, List, [], ◌∷◌, ◌++◌, length, take, set, replicate, eqb, ltb, None, Option, Some}
use Rattle.std.proofs.Common.{refl, ◌∙◌, length-set, get_or-set_same, ltb-false, eqb-true, ne_eqb, arith}
use Rattle.std.proofs.Math.Decide.{ℕ_discrete}
use Rattle.std.proofs.lemmas.List.{length-replicate}
use Rattle.std.proofs.lemmas.Bool.{not-false}
use Rattle.names.specs.Numbers.{is_name, in_table}
use Rattle.names.specs.Space as space
use Rattle.names.specs.Tag as tag
use Rattle.theory.specs.Fn.{at, Upd, put}
use Rattle.theory.specs.Ord.{Ord, born, push}
use Rattle.theory.specs.Natural.{Natural, ord→natural}
use Rattle.lent.specs.Mem.{NODES, slots, field, up, KIND, PARENT, TIE, SPACE, NAME, MARK, START, COUNT, PIECE, END, DOCUMENT, ELEMENT}
use Rattle.arena.specs.Links.{appended}
use Rattle.makers.specs.Make.{document, plain, is_template}
use Rattle.lent.specs.Room.{free_nodes}
use Rattle.makers.proofs.Laws.{element_plain}
use Rattle.arena.proofs.Lengths.{slots_same, length_appended}
use Rattle.makers.proofs.Made.{Made, Fields, no_tag, document_made, document_fields, plain_made, plain_fields, made_children}
use Rattle.arena.proofs.Children.{Forest, appended_parents, appended_children}
use Rattle.arena.proofs.Others.{appended_field}
use Rattle.arena.proofs.Ancestors.{kind_free, up_parent, up_same, appended_up}
use Rattle.nodes.specs.Nodes.{SPARE, Kind}
use Rattle.texts.specs.Words.{Words}
use Rattle.state.specs.declared.Context.{Context}
use Rattle.state.specs.Fields.{core_of}
use Rattle.state.specs.Full.{full}
use Rattle.sound.specs.Sound.{Tree, Modes, Allowed}
use Rattle.sound.specs.State.{SoundFull}
use Rattle.standard.specs.Insertion.{is_markable}
use Rattle.standard.specs.Begin.{IN_TEMPLATE, bad_mark, bad_context, is_template_context, first_modes, begin_answer, root_tag, begin_nodes, begin_modes, begin_state}
use Rattle.kept.specs.Keeps.{or_false, and_true}
use Rattle.kept.specs.Room.{held_in, room_nodes, slots_nodes}
use Rattle.kept.specs.Attach.{late_free}
use Rattle.kept.specs.Fresh.{clear_none, clear_more}
use Rattle.kept.specs.Grow.{upd_upd}
use Rattle.kept.specs.Edge.{full_sound}

-- ---- the answer

-- an answer past a test that is none of its own
past : (b : Bool) (k x : ℕ) → k ≢ 0 → cond b k x ≡ 0 → (b ≡ false) × (x ≡ 0)
past true k x d e = absurd (d e)
past false k x d e = (refl, e)

good_mark : (ns name mark : ℕ) → bad_mark ns name mark ≡ false → mark ≢ 0 → (mark ≡ 1) × (ns ≡ space.mathml) × (name ≡ tag.annotation_xml)
unfolding bad_mark is_markable
good_mark ns name mark e d =
    let a = and_true (eqb mark 1) _ (not-false _ (rw (ne_eqb mark 0 d) at e)) in
    let b = and_true (eqb ns space.mathml) _ a.1 in
    (eqb-true _ _ a.0, eqb-true _ _ b.0, eqb-true _ _ b.1)

-- a context that is not refused is one that there may be
good_context : (x : Option Context) → bad_context x ≡ false → Allowed x
unfolding bad_context Allowed
good_context None e = tt
good_context (Some x) e =
    let a = or_false (ltb 2 x.space) _ e in
    let b = or_false (not (is_name x.name)) _ a.1 in
    record { spaced = omega (arith, ltb-false 2 x.space a.0); named = not-false _ b.0; marked = good_mark x.space x.name x.mark b.1 }

-- ---- the nodes

-- the document and the root, not yet its child
abbrev two_nodes : List ℕ → List ℕ
two_nodes n = plain (document n 1) 2 root_tag

begin_nodes_lem : (n : List ℕ) → begin_nodes n ≡ appended (two_nodes n) 1 2
unfolding begin_nodes is_template
begin_nodes_lem n = rw (element_plain (document n 1) 2 root_tag refl)

module _ (n : List ℕ) (room : 2 < slots NODES n) where
  made_one : Made n (document n 1) 1
  made_one = document_made n 1 (held_in NODES n 1 (omega arith))

  room_one : 2 < slots NODES (document n 1)
  room_one = rw (slots_same n (document n 1) made_one.size) room

  fields_one : Fields (document n 1) 1 DOCUMENT no_tag 0 0
  fields_one = document_fields n 1 (held_in NODES n 1 (omega arith))

  made_two : Made (document n 1) (two_nodes n) 2
  made_two = plain_made (document n 1) 2 (held_in NODES (document n 1) 2 room_one) root_tag

  fields_two : Fields (two_nodes n) 2 ELEMENT root_tag 0 0
  fields_two = plain_fields (document n 1) 2 (held_in NODES (document n 1) 2 room_one) root_tag

  -- no node, one, and two
  empty : Forest n 0 (λ x. [])
  empty =
      record {
        held = omega arith;
        parents = λ x z h. absurd (omega arith);
        are =
            record {
              run = λ x z h. absurd (omega arith);
              first = λ x z h. absurd (omega arith);
              last = λ x z h. absurd (omega arith);
              own = λ x z h. absurd (omega arith);
              loose = λ x z h. absurd (omega arith);
            };
      }

  two : Forest (two_nodes n) 2 (put (put (λ x. []) 1 []) 2 [])
  two = made_children (made_children empty (omega arith) made_one) room_one made_two

  rooted : Forest (appended (two_nodes n) 1 2) 2 (put (put (put (λ x. []) 1 []) 2 []) 1 (put (put (λ x. []) 1 []) 2 [] 1 ++ 2 ∷ []))
  rooted = appended_children two 1 2 (omega arith) (omega arith) (omega arith) (omega arith) made_two.parent

  parents : Upd (λ x. field (two_nodes n) x PARENT) (λ x. field (appended (two_nodes n) 1 2) x PARENT) 2 1
  parents = appended_parents two 1 2 (omega arith) (omega arith) (omega arith) (omega arith) made_two.parent

  -- the fields of the two but the links
  kind_one : field (appended (two_nodes n) 1 2) 1 KIND ≡ DOCUMENT
  kind_one = appended_field (two_nodes n) 1 KIND kind_free 1 2 ∙ made_two.others 1 KIND (omega arith) refl ∙ fields_one.kind

  kind_two : field (appended (two_nodes n) 1 2) 2 KIND ≡ ELEMENT
  kind_two = appended_field (two_nodes n) 2 KIND kind_free 1 2 ∙ fields_two.kind

  late_one : (f : ℕ) → TIE ≤ f → f < 16 → ltb f 16 ≡ true → field (document n 1) 1 f ≡ 0 → field (appended (two_nodes n) 1 2) 1 f ≡ 0
  late_one f h k b e = appended_field (two_nodes n) 1 f (late_free f h k) 1 2 ∙ made_two.others 1 f (omega arith) b ∙ e

  late_two : (f : ℕ) → TIE ≤ f → f < 16 → field (appended (two_nodes n) 1 2) 2 f ≡ field (two_nodes n) 2 f
  late_two f h k = appended_field (two_nodes n) 2 f (late_free f h k) 1 2

  -- going up
  up_one : Upd (up n) (up (document n 1)) 1 0
  up_one =
      let e = fields_one.kind in
      record {
        new = up_parent (document n 1) 1 (omega arith) ∙ made_one.parent;
        old = λ x d. up_same n (document n 1) x (made_one.others x KIND d refl) (made_one.others x TIE d refl) (made_one.others x PARENT d refl);
      }

  up_two : Upd (up (document n 1)) (up (two_nodes n)) 2 0
  up_two =
      let e = fields_two.kind in
      record {
        new = up_parent (two_nodes n) 2 (omega arith) ∙ made_two.parent;
        old =
            λ x d.
            up_same (document n 1) (two_nodes n) x (made_two.others x KIND d refl) (made_two.others x TIE d refl) (made_two.others x PARENT d refl);
      }

  up_root : Upd (up (two_nodes n)) (up (appended (two_nodes n) 1 2)) 2 1
  up_root =
      let e = fields_two.kind in
      appended_up two 1 2 (omega arith) (omega arith) (omega arith) (omega arith) made_two.parent (omega arith)

  order : Natural (up (appended (two_nodes n) 1 2)) 2 (2 ∷ [])
  order =
      let none : Ord (up n) 0 []
      = record { rank = λ x. 0; used = λ x z h. absurd (omega arith); rise = λ x z h. absurd (omega arith); chain = tt } in
      ord→natural (push 1 (born 0 none up_one (omega arith)) (upd_upd up_two up_root) (omega arith))

  -- what each of the two is
  kind : (q : List ℕ) (x : ℕ) → 0 < x → x ≤ 2 → Dec (x ≡ 1) → Kind (appended (two_nodes n) 1 2) q 2 0 x
  unfolding is_name in_table
  kind q x z h (yes e) =
      let k = kind_one in
      rw e
      (record {
        known = (omega arith, omega arith);
        document =
            λ d.
            record {
              one = refl;
              parent = parents.old 1 (omega arith) ∙ made_two.others 1 PARENT (omega arith) refl ∙ made_one.parent;
              clear =
                  clear_more TIE (late_one TIE (omega arith) (omega arith) refl fields_one.tie)
                  (clear_more SPACE (late_one SPACE (omega arith) (omega arith) refl fields_one.space)
                  (clear_more NAME (late_one NAME (omega arith) (omega arith) refl fields_one.name)
                  (clear_more MARK (late_one MARK (omega arith) (omega arith) refl fields_one.mark)
                  (clear_more START (late_one START (omega arith) (omega arith) refl fields_one.start)
                  (clear_more COUNT (late_one COUNT (omega arith) (omega arith) refl fields_one.count)
                  (clear_more PIECE (late_one PIECE (omega arith) (omega arith) refl fields_one.piece)
                  (clear_more END (late_one END (omega arith) (omega arith) refl fields_one.end) (clear_none _ 1 SPARE))))))));
            };
        element = λ d. absurd (omega arith);
        text = λ d. absurd (omega arith);
        comment = λ d. absurd (omega arith);
        contents = λ d. absurd (omega arith);
      })
  kind q x z h (no e) =
      let e' : x ≡ 2 = omega arith in
      let k = kind_two in
      let a = late_two SPACE (omega arith) (omega arith) ∙ fields_two.space in
      let b = late_two NAME (omega arith) (omega arith) ∙ fields_two.name in
      let c = late_two MARK (omega arith) (omega arith) ∙ fields_two.mark in
      let s = late_two START (omega arith) (omega arith) ∙ fields_two.start in
      let t = late_two COUNT (omega arith) (omega arith) ∙ fields_two.count in
      rw e'
      (record {
        known = (omega arith, omega arith);
        document = λ d. absurd (omega arith);
        element =
            λ d.
            record {
              tag = rw (a, b, c) (record { spaced = omega arith; named = refl; marked = λ y. absurd (y refl) });
              span =
                  record {
                    few = rw t (omega arith);
                    used = rw (s, t) (omega arith);
                    distinct = rw (s, t) (record { apart = λ i j y v. absurd (omega arith) });
                  };
              ties =
                  record {
                    tied = λ y. let w = y.name in absurd (omega arith);
                    untied = λ y. late_two TIE (omega arith) (omega arith) ∙ fields_two.tie;
                  };
              rooted = record { root = λ y. refl };
              clear =
                  clear_more PIECE (late_two PIECE (omega arith) (omega arith) ∙ fields_two.piece)
                  (clear_more END (late_two END (omega arith) (omega arith) ∙ fields_two.end) (clear_none _ 2 SPARE));
            };
        text = λ d. absurd (omega arith);
        comment = λ d. absurd (omega arith);
        contents = λ d. absurd (omega arith);
      })

  tree : (q l : List ℕ) → take 1 l ≡ 2 ∷ [] → at l 0 ≡ 2 → Tree (appended (two_nodes n) 1 2) q l 2 0 1
  tree q l e r =
      record {
        children = record { parent = rooted.parents; kids = _; is_kids = rooted.are };
        kinds = record { kind = λ x z h. kind q x z h (ℕ_discrete x 1) };
        names = record { name = λ i h. absurd (omega arith) };
        top =
            record {
              two = omega arith;
              document = kind_one;
              element = kind_two;
              space = late_two SPACE (omega arith) (omega arith) ∙ fields_two.space;
              name = late_two NAME (omega arith) (omega arith) ∙ fields_two.name;
              parent = parents.new;
            };
        order = rw e order;
        stack =
            record {
              some = omega arith;
              root = r;
              elements = λ i h. let z : i ≡ 0 = omega arith in rw (z, r) kind_two;
            };
      }

  -- neither is a text
  words : (p : List ℕ) → Words (appended (two_nodes n) 1 2) p 2 0
  words p =
      record {
        of = λ x. [];
        text = λ x z h k. absurd (text x z h k (ℕ_discrete x 1));
        other = λ x z h k. refl;
        used = λ x z h. tt;
        once = λ x z h. tt;
        one = λ x y i z h l a b. a;
        all = λ i z h. absurd (omega arith);
      }
    where
      text : (x : ℕ) → 0 < x → x ≤ 2 → field (appended (two_nodes n) 1 2) x KIND ≡ 3 → Dec (x ≡ 1) → ⊥
      text x z h k (yes e) = let t = rw e at k in omega (arith, kind_one, t)
      text x z h k (no e) = let e' : x ≡ 2 = omega arith in let t = rw e' at k in omega (arith, kind_two, t)

-- ---- the modes

begin_modes_lem : (m : List ℕ) (x : Option Context) → ltb (min (length m) 64) (first_modes x) ≡ false
    → (first_modes x ≤ 64) × (first_modes x ≤ length (begin_modes m x)) × Modes (begin_modes m x) (first_modes x)
unfolding first_modes begin_modes
begin_modes_lem m x e = by (is_template_context x) e
  where
    by : (b : Bool) → ltb (min (length m) 64) (cond b 1 0) ≡ false
        → (cond b 1 0 ≤ 64) × (cond b 1 0 ≤ length (cond b (set m 0 IN_TEMPLATE) m)) × Modes (cond b (set m 0 IN_TEMPLATE) m) (cond b 1 0)
    by true e =
        let h = ltb-false (min (length m) 64) 1 e in (
          omega arith,
          rw (length-set m 0 IN_TEMPLATE) (omega arith),
          record { mode = λ i b. let z : i ≡ 0 = omega arith in rw (z, get_or-set_same m 0 IN_TEMPLATE 0 (omega arith)) (omega arith, omega arith) },
        )
    by false e = (omega arith, omega arith, record { mode = λ i b. absurd (omega arith) })

-- ---- the state

pub begin_sound : (n l m p q : List ℕ) (x : Option Context) → begin_answer n m x ≡ 0
    → SoundFull (full (begin_state x).stack.handles (core_of (begin_state x)) x (begin_nodes n) l (begin_modes m x) p q)
unfolding begin_state core_of begin_answer
begin_sound n l m p q x e =
    let a = past (bad_context x) 2 _ (omega arith) e in
    let b = past (ltb (free_nodes n 0) 2) 4 _ (omega arith) a.1 in
    let d = past (ltb (min (length m) 64) (first_modes x)) 6 0 (omega arith) b.1 in
    let room : 2 < slots NODES n = room_nodes n 0 2 (omega arith) b.0 in
    let g = slots_nodes n 2 room in
    let size : length (appended (two_nodes n) 1 2) ≡ length n = length_appended (two_nodes n) 1 2 ∙ (made_two n room).size ∙ (made_one n room).size in
    let t = begin_modes_lem m x d.0 in
    (full_sound (set (replicate 512 0) 0 2) _ x (begin_nodes n) l (begin_modes m x) p q (length-set {A = ℕ} (replicate 512 0) 0 2 ∙ length-replicate {A = ℕ} 512 0)).0
    (rw (begin_nodes_lem n)
    (record {
      sizes = record { nodes = (omega arith, rw size g.1); pieces = (omega arith, λ z. absurd (omega arith)); pairs = (omega arith, omega arith) };
      places = record { stack = (omega arith, omega arith); entries = (omega arith, omega arith); modes = (t.0, t.1) };
      tree = tree n room q (set (replicate 512 0) 0 2) refl refl;
      texts = words n room p;
      entries = record { entry = λ i h. absurd (omega arith) };
      modes = t.2;
      settings = record { fostering = omega arith; seen = omega arith; context = good_context x a.0 };
    }))
