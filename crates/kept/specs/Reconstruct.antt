-- Reconstructing the active formatting elements keeps a sound state sound: each entry made anew is a copy that is put at the usual
-- place, opened, and takes the entry's place in the list.
-- Assumes nothing.
use Rattle.std.proofs.Common.{ℕ, zero, suc, ◌+◌, ◌-◌, ◌≤◌, ◌<◌, refl, ◌∙◌, get_or-set_other, false, arith, add-one, ltb, ltb-false}
use Rattle.std.specs.Prelude.{◌≡◌, ◌≢◌, List, [], ◌∷◌, ◌++◌, length, take, eqb, None, Option, Some, ℕ}
use Rattle.std.proofs.lemmas.Bool.{eqb-false}
use Rattle.theory.specs.Fn as fn
use Rattle.theory.specs.Natural.{Natural}
use Rattle.lent.specs.Mem.{NODES, slots, up, KIND, SPACE, NAME}
use Rattle.lent.specs.Room.{free_nodes}
use Rattle.makers.specs.Make.{copied, tag_of}
use Rattle.arena.proofs.Lengths.{slots_same}
use Rattle.arena.proofs.Ancestors.{kind_free}
use Rattle.places.specs.Places.{Places, at, pushed, swapped, last_with, down, never, place_of}
use Rattle.places.proofs.Laws.{down_last}
use Rattle.state.specs.Full.{Full, with_nodes, with_stack, with_list}
use Rattle.sound.specs.Sound.{MARKER}
use Rattle.sound.specs.State.{SoundFull}
use Rattle.standard.specs.Place.{attached}
use Rattle.standard.specs.Insertion.{usual_place}
use Rattle.standard.specs.Stack.{is_found}
use Rattle.standard.specs.Formatting.{after, is_marker_or_open, first_lost, anew_at, anew, anew_room, reconstructed}
use Rattle.kept.specs.Room.{room_nodes}
use Rattle.kept.specs.Keeps.{Keeps, either, or_false}
use Rattle.kept.specs.Search.{after_none, after_at_lem, down_past}
use Rattle.kept.specs.Parts.{nodes_sound, opened_sound, list_sound}
use Rattle.kept.specs.Pieces.{words_other}
use Rattle.kept.specs.Attach.{attached_field, late_free}
use Rattle.kept.specs.Usual.{place_usual}
use Rattle.kept.specs.Grow.{made_old, old_texts, grown_sound, grown_order}
use Rattle.kept.specs.Copy.{plain_is, plain_has, plain_kind, entry_copyable}
use Rattle.kept.specs.Entries.{New, entries_swapped, swapped_whole}
use Rattle.kept.specs.Formatting.{entries_fresh}
use Rattle.kept.specs.Spent.{length_attached}

-- the list and how much is lent, after a copy
module _ (f : Full) (i : ℕ) where
  anew_list : (anew_at f i).list ≡ swapped f.list i (suc f.nodes.used)
  unfolding anew_at with_list
  anew_list = rw add-one

  anew_depth : (anew_at f i).stack.size ≡ f.stack.size + 1
  unfolding anew_at with_list with_stack pushed
  anew_depth = refl

  anew_used : (anew_at f i).nodes.used ≡ suc f.nodes.used
  unfolding anew_at with_list with_stack with_nodes
  anew_used = add-one f.nodes.used

module _ (f : Full) (s : SoundFull f) (i : ℕ) (b : i < f.list.size) (z : at f.list i ≢ MARKER) (h : suc f.nodes.used < slots NODES f.nodes.mem) where
  n : ℕ
  n = suc f.nodes.used

  m' : List ℕ
  m' = attached (copied f.nodes.mem n (at f.list i)) (usual_place f) n

  -- the state with the copy at its place
  placed_sound : SoundFull (with_nodes f m' n)
  unfolding m' n copied at
  placed_sound =
      let a = place_usual f s in
      let t = tag_of f.nodes.mem (at f.list i) in
      let y = entry_copyable s.sound i b z in
      let w = plain_is f.nodes.mem n t h in
      let k = (plain_has f.nodes.mem n t h).kind in
      nodes_sound f s _ _
      (grown_sound s.sound w h (plain_kind f.nodes.mem n t h y.single y.allowed) (omega arith)
      (words_other s.sound.texts (old_texts (made_old w)) (omega arith)) s.sound.sizes.pieces (usual_place f) a.spot (omega arith) (λ d. a.inner))

  placed_order : Natural (up m') n (take f.stack.size f.stack.held ++ n ∷ [])
  unfolding m' n copied at
  placed_order =
      let a = place_usual f s in
      let t = tag_of f.nodes.mem (at f.list i) in
      let y = entry_copyable s.sound i b z in
      let w = plain_is f.nodes.mem n t h in
      let k = (plain_has f.nodes.mem n t h).kind in
      grown_order s.sound w h (plain_kind f.nodes.mem n t h y.single y.allowed) (omega arith)
      (words_other s.sound.texts (old_texts (made_old w)) (omega arith)) s.sound.sizes.pieces (usual_place f) a.spot

  copy_new : New m' n f.list.held n
  unfolding m' n copied at
  copy_new =
      let t = tag_of f.nodes.mem (at f.list i) in
      let y = entry_copyable s.sound i b z in
      let r = plain_has f.nodes.mem n t h in
      record {
        used = (omega arith, omega arith);
        html = (attached_field _ (usual_place f) _ _ KIND kind_free ∙ r.kind, attached_field _ (usual_place f) _ _ SPACE (late_free SPACE (omega arith) (omega arith)) ∙ r.space ∙ y.html);
        name = rw (attached_field (copied f.nodes.mem n (at f.list i)) (usual_place f) n n NAME (late_free NAME (omega arith) (omega arith)) ∙ r.name) y.named;
        absent = λ j d. entries_fresh s.sound.entries s.sound.sizes.nodes.0 j (omega (arith, s.list.all));
      }

  anew_one : f.stack.size < 512 → SoundFull (anew_at f i)
  unfolding anew_at with_nodes swapped with_stack n attached m'
  anew_one d =
      let o = opened_sound (with_nodes f m' n) placed_sound n d copy_new.html.0 placed_order in
      rw add-one
      (list_sound _ o (swapped f.list i n) (swapped_whole f.list s.list i n) s.sound.places.entries.0
      (entries_swapped i o.sound.entries s.list.all copy_new))

  anew_slots : slots NODES (anew_at f i).nodes.mem ≡ slots NODES f.nodes.mem
  unfolding anew_at with_list with_stack with_nodes copied at n
  anew_slots =
      rw add-one
      (slots_same f.nodes.mem _ (length_attached _ (usual_place f) n ∙ (plain_is f.nodes.mem n (tag_of f.nodes.mem (at f.list i)) h).size))

-- ---- all of them

-- what the entries from i on must be
record Lost (f : Full) (i : ℕ) : Type 0 where
  none : (j : ℕ) → i ≤ j → j < f.list.size → at f.list j ≢ MARKER

swapped_other : (l : Places) (i j n : ℕ) → j ≢ i → at (swapped l i n) j ≡ at l j
unfolding swapped at
swapped_other l i j n d = get_or-set_other l.held i j n 0 d

size_next : (f : Full) (i : ℕ) → (anew_at f i).list.size ≡ f.list.size
unfolding anew_at with_list swapped
size_next f i = refl

lost_next : (f : Full) (i : ℕ) → Lost f i → Lost (anew_at f i) (i + 1)
lost_next f i w =
    record {
      none = λ j a b. rw (anew_list f i, swapped_other f.list i j (suc f.nodes.used) (omega arith)) (w.none j (omega arith) (omega (arith, size_next f i)));
    }

anew_sound : (k i : ℕ) (f : Full) → SoundFull f → Lost f i → i + k ≤ f.list.size → f.nodes.used + k < slots NODES f.nodes.mem → f.stack.size + k ≤ 512
    → SoundFull (anew f i k)
unfolding anew
anew_sound zero i f s w a b c = s
anew_sound (suc k) i f s w a b c =
    let z = w.none i (omega arith) (omega arith) in
    let h : suc f.nodes.used < slots NODES f.nodes.mem = omega arith in
    let y : i < f.list.size = omega arith in
    anew_sound k (i + 1) (anew_at f i) (anew_one f s i y z h (omega arith)) (lost_next f i w)
    (omega (arith, size_next f i)) (omega (arith, anew_used f i, anew_slots f s i y z h)) (omega (arith, anew_depth f i))

-- ---- 7

module _ (f : Full) (s : SoundFull f) where
  first_lost_lem : Lost f (first_lost f.stack f.list)
  unfolding first_lost last_with is_marker_or_open at
  first_lost_lem =
      record {
        none = λ j a b.
            let e = (down_past (is_marker_or_open f.stack) f.list.held (length f.list.held)).none j a (omega (arith, s.list.all)) in
            eqb-false _ MARKER (or_false (eqb (fn.at f.list.held j) MARKER) (is_found (place_of f.stack (fn.at f.list.held j))) e).0;
      }

  first_le : first_lost f.stack f.list ≤ f.list.size
  unfolding first_lost last_with
  first_le = by (down (is_marker_or_open f.stack) never f.list.held (length f.list.held)) refl
    where
      by : (o : Option ℕ) → down (is_marker_or_open f.stack) never f.list.held (length f.list.held) ≡ o → after o ≤ f.list.size
      by None e = omega (arith, after_none)
      by (Some i) e = omega (arith, after_at_lem i, (down_last (is_marker_or_open f.stack) never f.list.held (length f.list.held) i e).below, s.list.all)

  anew_room_lem : (i k : ℕ) → Lost f i → i + k ≤ f.list.size → Keeps (anew_room f i k)
  unfolding anew_room anew
  anew_room_lem i k w a =
      either (ltb (free_nodes f.nodes.mem f.nodes.used) k) (λ e. record { sound = s })
      (λ e. either (ltb (512 - f.stack.size) k) (λ g. record { sound = s })
      (λ g. record { sound = by k a e (ltb-false (512 - f.stack.size) k g) }))
    where
      by : (k : ℕ) → i + k ≤ f.list.size → ltb (free_nodes f.nodes.mem f.nodes.used) k ≡ false → k ≤ 512 - f.stack.size → SoundFull (anew f i k)
      by zero a e g = s
      by (suc k) a e g =
          anew_sound (suc k) i f s w a (room_nodes f.nodes.mem f.nodes.used (suc k) (omega arith) e) (omega (arith, s.sound.places.stack))

  pub reconstructed_sound : SoundFull (reconstructed f).after
  unfolding reconstructed
  reconstructed_sound = (anew_room_lem (first_lost f.stack f.list) (f.list.size - first_lost f.stack f.list) first_lost_lem (by (first_lost f.stack f.list) first_le)).sound
    where
      by : (i : ℕ) → i ≤ f.list.size → i + (f.list.size - i) ≤ f.list.size
      by i h = omega arith
