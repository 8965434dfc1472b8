-- Inserting an element keeps a sound state sound: its pairs are stored, it is made, with contents if it is an HTML `template`, put at
-- its place, and opened if the call asks for it.
-- Assumes nothing.
use Rattle.std.proofs.Common.{ℕ, suc, ◌+◌, ◌/◌, ◌≤◌, ◌<◌, refl, ◌∙◌, arith, ltb-true, ltb-false, eqb-true, eq-eqb, true, false, not, add-one}
use Rattle.std.specs.Prelude.{◌≡◌, Bool, ◌&&◌, ◌||◌, List, [], ◌∷◌, ◌++◌, length, take, eqb, ltb}
use Rattle.std.proofs.Math.Numerals.{add-two}
use Rattle.std.proofs.lemmas.Bool.{not-false}
use Rattle.names.specs.Numbers.{is_name}
use Rattle.names.specs.Space as space
use Rattle.names.specs.Tag as tag
use Rattle.theory.specs.Natural.{Natural}
use Rattle.lent.specs.Mem.{NODES, PAIRS, slots, field, up, KIND, ELEMENT}
use Rattle.lent.specs.Room.{free_nodes, free_pairs}
use Rattle.makers.specs.Make.{is_template, nodes_of}
use Rattle.makers.specs.declared.make.Tag.{Tag}
use Rattle.makers.proofs.Laws.{element_plain, element_template, nodes_one, nodes_two}
use Rattle.arena.proofs.Ancestors.{kind_free}
use Rattle.nodes.specs.Nodes as nodes
use Rattle.state.specs.Full.{Full, with_nodes, with_pairs}
use Rattle.sound.specs.State.{SoundFull}
use Rattle.standard.specs.Pairs.{pairs_in, fine, stored}
use Rattle.standard.specs.Insertion.{usual_place, pushes, is_markable, bad_tag, bad_pairs, new_tag, element_in, pushed_if, element_done, element_room, inserted_element}
use Rattle.kept.specs.Room.{room_nodes, room_pairs, fresh_next}
use Rattle.kept.specs.Keeps.{Keeps, either, or_false, and_true}
use Rattle.kept.specs.Parts.{Over, pairs_sound, opened_sound}
use Rattle.kept.specs.Pieces.{words_other}
use Rattle.kept.specs.Attach.{attached_field}
use Rattle.kept.specs.Usual.{place_usual}
use Rattle.kept.specs.Fresh.{Allowed}
use Rattle.kept.specs.Copy.{plain_is, plain_has, plain_kind}
use Rattle.kept.specs.Grow.{made_old, old_texts, grown_sound, grown_order}
use Rattle.kept.specs.Template.{pair_tagged, template_sound, template_order}
use Rattle.kept.specs.Attributes.{length_pairs, stored_distinct, stored_sound}

-- ---- the tests

-- a tag that is not refused is one that an element may have
good_tag : (ns name flags : ℕ) → bad_tag ns name flags ≡ false → nodes.Tag ns name (flags / 2)
unfolding bad_tag is_markable
good_tag ns name flags e =
    let a = or_false (ltb 2 ns) _ e in
    let b = or_false (not (is_name name)) _ a.1 in
    let d = or_false (ltb 3 flags) _ b.1 in
    let few : flags ≤ 3 = ltb-false 3 flags d.0 in
    record {
      spaced = omega (arith, ltb-false 2 ns a.0);
      named = not-false (is_name name) b.0;
      marked =
          λ n.
          let one : flags / 2 ≡ 1 = omega arith in
          let t = and_true (eqb ns space.mathml) _ (not-false _ (rw (eq-eqb (flags / 2) 1 one) at d.1)) in
          (one, eqb-true _ _ t.0, eqb-true _ _ t.1);
    }

pub good_pairs : (s : List ℕ) (from count : ℕ) → bad_pairs s from count ≡ false → (count ≤ 16) × (fine [] (pairs_in s from count) ≡ true)
unfolding bad_pairs
good_pairs s from count e =
    let a = or_false (ltb 16 count) _ e in
    (ltb-false 16 count a.0, not-false _ a.1)

is_template_lem : (t : Tag) → is_template t ≡ true → (t.space ≡ space.html) × (t.name ≡ tag.template)
unfolding is_template
is_template_lem t e = let a = and_true (eqb t.space 0) _ e in (eqb-true _ _ a.0, eqb-true _ _ a.1)

-- ---- the new element

-- the state g is sound, and n, which is in it, may be opened
record Placed (g : Full) (n : ℕ) : Type 0 where
  sound : SoundFull g
  kind : field g.nodes.mem n KIND ≡ ELEMENT
  order : Natural (up g.nodes.mem) g.nodes.used (take g.stack.size g.stack.held ++ n ∷ [])

module _ (f : Full) (s : SoundFull f) (t : Tag) (ps : List (ℕ × ℕ)) (may : nodes.Tag t.space t.name t.mark) (few : t.count ≤ 16)
    (start : t.start ≡ f.pairs.used) (all : length ps ≡ t.count) (ok : fine [] ps ≡ true) (room : f.pairs.used + t.count ≤ slots PAIRS f.pairs.mem) where
  stored_pairs : Over f f.nodes.mem f.pieces.mem (stored f.pairs.mem f.pairs.used ps) f.nodes.used f.pieces.used (f.pairs.used + t.count)
  stored_pairs = rw all at (stored_sound s.sound ps ok (rw all room))

  allowed : Allowed (stored f.pairs.mem f.pairs.used ps) (f.pairs.used + t.count) t
  allowed =
      record {
        tag = may;
        few = few;
        used = rw start (omega arith);
        distinct = rw (start, ← all) (stored_distinct s.sound ps ok (rw all room));
      }

  plain_placed : is_template t ≡ false → suc f.nodes.used < slots NODES f.nodes.mem → Placed (element_in f t ps) (suc f.nodes.used)
  unfolding element_in with_pairs with_nodes
  plain_placed e h =
      let a = place_usual f s in
      let n = suc f.nodes.used in
      let w = plain_is f.nodes.mem n t h in
      let r = plain_has f.nodes.mem n t h in
      let y = plain_kind f.nodes.mem n t h e allowed in
      let k = r.kind in
      let words = words_other s.sound.texts (old_texts (made_old w)) (omega arith) in
      rw (add-one, nodes_one t e, add-one, element_plain f.nodes.mem (suc f.nodes.used) t e)
      (record {
        sound =
            pairs_sound f s _ _ _ _
            (grown_sound stored_pairs w h y (omega arith) words s.sound.sizes.pieces (usual_place f) a.spot (omega arith) (λ y. a.inner));
        kind = attached_field _ (usual_place f) _ _ KIND kind_free ∙ r.kind;
        order = grown_order stored_pairs w h y (omega arith) words s.sound.sizes.pieces (usual_place f) a.spot;
      })

  template_placed : is_template t ≡ true → suc (suc f.nodes.used) < slots NODES f.nodes.mem → Placed (element_in f t ps) (suc f.nodes.used)
  unfolding element_in with_pairs with_nodes
  template_placed e h =
      let a = place_usual f s in
      let n = suc f.nodes.used in
      rw (add-one, nodes_two t e, add-two, element_template f.nodes.mem n t e, fresh_next f.nodes.mem n (omega arith))
      (record {
        sound = pairs_sound f s _ _ _ _ (template_sound stored_pairs t h allowed (is_template_lem t e) (usual_place f) a.spot a.inner);
        kind = attached_field _ (usual_place f) _ _ KIND kind_free ∙ (pair_tagged f.nodes.mem n t h).kind;
        order = template_order stored_pairs t h allowed (is_template_lem t e) (usual_place f) a.spot;
      })

  placed : ltb (free_nodes f.nodes.mem f.nodes.used) (nodes_of t) ≡ false → Placed (element_in f t ps) (suc f.nodes.used)
  placed h = by (is_template t) refl
    where
      by : (b : Bool) → is_template t ≡ b → Placed (element_in f t ps) (suc f.nodes.used)
      by true e =
          let n = nodes_two t e in
          template_placed e (omega (arith, room_nodes f.nodes.mem f.nodes.used (nodes_of t) (omega arith) h))
      by false e =
          let n = nodes_one t e in
          plain_placed e (omega (arith, room_nodes f.nodes.mem f.nodes.used (nodes_of t) (omega arith) h))

  same_depth : (element_in f t ps).stack.size ≡ f.stack.size
  unfolding element_in with_pairs with_nodes
  same_depth = refl

  pub element_done_lem : ltb (free_nodes f.nodes.mem f.nodes.used) (nodes_of t) ≡ false → (push : Bool) → (push && not (ltb f.stack.size 512)) ≡ false
      → SoundFull (element_done f t ps push)
  unfolding element_done pushed_if
  element_done_lem h false e = (placed h).sound
  element_done_lem h true e =
      rw add-one
      (let w = placed h in
      opened_sound (element_in f t ps) w.sound (suc f.nodes.used) (rw same_depth (ltb-true f.stack.size 512 (not-false _ e))) w.kind w.order)

-- ---- the call

module _ (f : Full) (s : SoundFull f) where
  element_room_lem : (t : Tag) (ps : List (ℕ × ℕ)) (push : Bool) → nodes.Tag t.space t.name t.mark → t.count ≤ 16 → t.start ≡ f.pairs.used
      → length ps ≡ t.count → fine [] ps ≡ true → Keeps (element_room f t ps push)
  unfolding element_room
  element_room_lem t ps push may few start all ok =
      either (ltb (free_nodes f.nodes.mem f.nodes.used) (nodes_of t)) (λ a. record { sound = s })
      (λ a. either (push && not (ltb f.stack.size 512)) (λ b. record { sound = s })
      (λ b. either (ltb (free_pairs f.pairs.mem f.pairs.used) t.count) (λ d. record { sound = s })
      (λ d. record {
        sound = element_done_lem f s t ps may few start all ok (room_pairs f.pairs.mem f.pairs.used t.count s.sound.sizes.pairs d) a push b;
      })))

  pub inserted_element_sound : (r : List ℕ) (ns name flags from count : ℕ) → SoundFull (inserted_element r f ns name flags from count).after
  unfolding inserted_element new_tag
  inserted_element_sound r ns name flags from count = k.sound
    where
      k : Keeps (inserted_element r f ns name flags from count)
      k =
          either (bad_tag ns name flags || bad_pairs r from count) (λ e. record { sound = s })
          (λ e.
          let a = or_false (bad_tag ns name flags) (bad_pairs r from count) e in
          let b = good_pairs r from count a.1 in
          element_room_lem (new_tag f ns name flags count) (pairs_in r from count) (pushes flags)
          (good_tag ns name flags a.0) b.0 refl (length_pairs r from count) b.1)
