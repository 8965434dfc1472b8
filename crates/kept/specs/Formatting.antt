-- Creating an element for a formatting tag, and reconstructing the active formatting elements, keep a sound state sound.
-- Assumes nothing.
use Rattle.std.proofs.Common.{ℕ, suc, ◌+◌, ◌≤◌, ◌<◌, refl, ◌∙◌, true, arith, add-one, ltb-true}
use Rattle.std.specs.Prelude.{◌≡◌, ◌≢◌, false, not, List, [], length, ltb, None, Option, Some, ℕ}
use Rattle.std.proofs.Math.Decide.{ℕ_discrete}
use Rattle.std.proofs.lemmas.Bool.{not-false}
use Rattle.theory.specs.Fn.{at}
use Rattle.names.specs.Space as space
use Rattle.names.specs.Sets.{is_in, Formatting}
use Rattle.lent.specs.Mem.{NODES, slots, KIND, SPACE, NAME}
use Rattle.lent.specs.Room.{free_nodes, free_pairs}
use Rattle.makers.specs.Make.{is_template}
use Rattle.makers.specs.declared.make.Tag.{Tag}
use Rattle.makers.proofs.Laws.{element_plain, nodes_one}
use Rattle.makers.proofs.Made.{plain_fields}
use Rattle.arena.proofs.Ancestors.{kind_free}
use Rattle.nodes.specs.Nodes as nodes
use Rattle.places.specs.Places.{Places, Whole, pushed, left_at}
use Rattle.state.specs.Full.{Full, with_nodes, with_pairs, with_stack}
use Rattle.sound.specs.Sound.{Entries, MARKER}
use Rattle.sound.specs.State.{SoundFull}
use Rattle.standard.specs.Pairs.{pairs_in, fine}
use Rattle.standard.specs.Small.{room}
use Rattle.standard.specs.Insertion.{usual_place, bad_pairs, new_tag, element_in, pushed_if, element_done}
use Rattle.standard.specs.Formatting.{spared, listed, created_room, created_for, bad_formatting, created}
use Rattle.entries.proofs.SurplusLaws.{surplus_below}
use Rattle.names.proofs.Members.{formatting_plain}
use Rattle.kept.specs.Room.{held_in, room_nodes, room_pairs}
use Rattle.kept.specs.Keeps.{Keeps, either, or_false}
use Rattle.kept.specs.Parts.{list_sound}
use Rattle.kept.specs.Front.{pushed_whole}
use Rattle.kept.specs.Attach.{attached_field, late_free}
use Rattle.kept.specs.Attributes.{length_pairs}
use Rattle.kept.specs.Copy.{single_name}
use Rattle.kept.specs.Element.{good_pairs, element_done_lem}
use Rattle.kept.specs.Entries.{New, entries_without, without_whole, entries_more}

-- ---- the list

-- no entry is a node that is not in use yet
pub entries_fresh : {m l : List ℕ} {c k : ℕ} → Entries m c l k → c ≤ 4096 → (i : ℕ) → i < k → at l i ≢ suc c
entries_fresh {m} {l} {c} e h i b z = by (ℕ_discrete (at l i) MARKER)
  where
    by : Dec (at l i ≡ MARKER) → ⊥
    by (yes d) = omega arith
    by (no d) = omega (arith, (e.entry i b).used d)

-- the list without an entry, or as it is
record Rest (m : List ℕ) (c : ℕ) (l p : Places) : Type 0 where
  whole : Whole p
  entries : Entries m c p.held p.size

rest : {m : List ℕ} {c : ℕ} (l : Places) → Whole l → Entries m c l.held l.size → (o : Option ℕ) → ((i : ℕ) → o ≡ Some i → i < l.size) → Rest m c l (left_at o l)
unfolding left_at
rest l w e None h = record { whole = w; entries = e }
rest l w e (Some i) h = record { whole = without_whole l w i (h i refl); entries = entries_without l w i (h i refl) e }

-- ---- 4

module _ (f : Full) (s : SoundFull f) (t : Tag) (ps : List (ℕ × ℕ)) (html : t.space ≡ space.html) (named : is_in Formatting space.html t.name ≡ true)
    (single : is_template t ≡ false) (o : Option ℕ) (low : (i : ℕ) → o ≡ Some i → i < f.list.size) where
  -- the new element may come into the list
  listable : suc f.nodes.used < slots NODES f.nodes.mem
      → New (element_done f t ps true).nodes.mem (element_done f t ps true).nodes.used (left_at o f.list).held (suc f.nodes.used)
  unfolding element_done pushed_if element_in with_pairs with_nodes with_stack
  listable h =
      let n = suc f.nodes.used in
      let r = plain_fields f.nodes.mem n (held_in NODES f.nodes.mem n h) t in
      let g = rest f.list s.list s.sound.entries o low in
      rw (add-one, nodes_one t single, add-one, element_plain f.nodes.mem n t single)
      (record {
        used = (omega arith, omega arith);
        html = (attached_field _ (usual_place f) _ _ KIND kind_free ∙ r.kind, attached_field _ (usual_place f) _ _ SPACE (late_free SPACE (omega arith) (omega arith)) ∙ r.space ∙ html);
        name = rw (attached_field _ (usual_place f) n n NAME (late_free NAME (omega arith) (omega arith)) ∙ r.name) named;
        absent = λ i b. entries_fresh g.entries s.sound.sizes.nodes.0 i (omega (arith, g.whole.all));
      })

  same_list : (element_done f t ps true).list ≡ f.list
  unfolding element_done pushed_if element_in with_pairs with_nodes with_stack
  same_list = refl

  created_done : suc f.nodes.used < slots NODES f.nodes.mem → (left_at o f.list).size < 256 → SoundFull (element_done f t ps true)
      → SoundFull (listed (element_done f t ps true) (left_at o f.list) (f.nodes.used + 1))
  unfolding listed pushed
  created_done h few g =
      let w = rest f.list (rw same_list at g.list) (rw same_list at g.sound.entries) o low in
      rw add-one
      (list_sound (element_done f t ps true) g (pushed (left_at o f.list) (suc f.nodes.used)) (pushed_whole _ w.whole _) (omega arith)
      (entries_more w.entries w.whole.all (listable h)))

module _ (f : Full) (s : SoundFull f) where
  created_room_lem : (t : Tag) (ps : List (ℕ × ℕ)) (o : Option ℕ) → ((i : ℕ) → o ≡ Some i → i < f.list.size) → t.space ≡ space.html → is_in Formatting space.html t.name ≡ true
      → is_template t ≡ false → nodes.Tag t.space t.name t.mark → t.count ≤ 16 → t.start ≡ f.pairs.used → length ps ≡ t.count → fine [] ps ≡ true
      → Keeps (created_room f t ps (left_at o f.list))
  unfolding created_room room
  created_room_lem t ps o low html named single may few start all ok =
      either (ltb (free_nodes f.nodes.mem f.nodes.used) 1) (λ a. record { sound = s })
      (λ a. either (not (ltb f.stack.size 512)) (λ b. record { sound = s })
      (λ b. either (not (ltb (left_at o f.list).size _)) (λ d. record { sound = s })
      (λ d. either (ltb (free_pairs f.pairs.mem f.pairs.used) t.count) (λ g. record { sound = s })
      (λ g.
      let h = room_nodes f.nodes.mem f.nodes.used 1 (omega arith) a in
      let y : (left_at o f.list).size < _ = ltb-true _ _ (not-false _ d) in
      record {
        sound =
            created_done f s t ps html named single o low (omega arith) (omega arith)
            (element_done_lem f s t ps may few start all ok (room_pairs f.pairs.mem f.pairs.used t.count s.sound.sizes.pairs g) (rw (nodes_one t single) a) true b);
      }))))

  pub created_sound : (r : List ℕ) (name from count : ℕ) → SoundFull (created r f name from count).after
  unfolding created created_for spared bad_formatting new_tag is_template
  created_sound r name from count = k.sound
    where
      k : Keeps (created r f name from count)
      k =
          either (bad_formatting r name from count) (λ e. record { sound = s })
          (λ e.
          let a = or_false (not (is_in Formatting space.html name)) (bad_pairs r from count) e in
          let named = not-false (is_in Formatting space.html name) a.0 in
          let plain = formatting_plain name named in
          let b = good_pairs r from count a.1 in
          created_room_lem (new_tag f space.html name 1 count) (pairs_in r from count) _
          (λ i z. omega (arith, s.list.all, surplus_below _ f.list i z)) refl named (single_name space.html name plain.no_template)
          (record { spaced = omega arith; named = plain.known; marked = λ z. absurd (z refl) })
          b.0 refl (length_pairs r from count) b.1)
