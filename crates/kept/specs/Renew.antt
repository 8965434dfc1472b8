-- The adoption agency, 4.13.6 and 4.13.8: a copy of an open element that is in the formatting list takes its places in stack and list,
-- and the next element on the stack becomes the child of the copy. A sound state stays sound.
-- Assumes nothing.
use Rattle.std.proofs.Common.{ℕ, suc, ◌+◌, ◌≤◌, ◌<◌, sym, ap, ◌∙◌, arith, drop-cons, take_all, add-one, length-set}
use Rattle.std.specs.Prelude.{◌≡◌, refl, ◌≢◌, List, ◌∷◌, ◌++◌, length, take, drop, set, Option}
use Rattle.std.proofs.Math.Decide.{ℕ_discrete}
use Rattle.std.proofs.Math.Seq.{split_at}
use Rattle.std.proofs.lemmas.List.{set_split}
use Rattle.theory.specs.Fn.{at, Upd, upd_set}
use Rattle.theory.specs.Ord.{clone, copied}
use Rattle.theory.specs.Natural.{Natural, natural→ord, ord→natural}
use Rattle.lent.specs.Mem.{NODES, slots, field, up, KIND, TIE, SPACE, NAME, ELEMENT}
use Rattle.makers.specs.Make as make
use Rattle.arena.specs.Links.{detached}
use Rattle.makers.proofs.Made.{Made, Fields}
use Rattle.arena.proofs.Lengths.{length_detached}
use Rattle.arena.proofs.Others.{NoLink, detached_field}
use Rattle.arena.proofs.Ancestors.{kind_free}
use Rattle.places.specs.Places as places
use Rattle.places.specs.Places.{swapped}
use Rattle.state.specs.Full.{Full, with_stack, with_list, with_nodes}
use Rattle.state.specs.declared.Context.{Context}
use Rattle.sound.specs.Sound.{Open, Sound}
use Rattle.sound.specs.State.{SoundFull}
use Rattle.standard.specs.Place.{node, attached}
use Rattle.standard.specs.declared.Place.TheVariants.{End}
use Rattle.standard.specs.Adoption.{renewed, renewed_in}
use Rattle.kept.specs.Parts.{Over, stack_sound, list_sound, nodes_sound}
use Rattle.kept.specs.Same.{open_used}
use Rattle.kept.specs.Pieces.{words_other}
use Rattle.kept.specs.Attach.{Child, attached_child, child_up, forest, attached_sound, late_free}
use Rattle.kept.specs.Grow.{made_old, old_texts, made_sound, up_made}
use Rattle.kept.specs.Copy.{plain_is, plain_has, plain_kind, Copyable, entry_copyable}
use Rattle.kept.specs.Entries.{New, entries_swapped, swapped_whole}
use Rattle.kept.specs.Detach.{detached_sound, detached_up, detached_parent}
use Rattle.kept.specs.Tree.{stack_once}

-- ---- the copy

module _ {m p q l e t : List ℕ} {c v u d k s foster head : ℕ} {x : Option Context} (o : Sound m p q l e t c v u d k s foster head x)
    (n : ℕ) (may : Copyable m q u n) (room : suc c < slots NODES m) where
  pub copy_made : Made m (make.copied m (suc c) n) (suc c)
  unfolding make.copied
  copy_made = plain_is m (suc c) (make.tag_of m n) room

  pub copy_fields : Fields (make.copied m (suc c) n) (suc c) ELEMENT (make.tag_of m n) 0 0
  unfolding make.copied
  copy_fields = plain_has m (suc c) (make.tag_of m n) room

  pub copy_sound : Sound (make.copied m (suc c) n) p q l e t (suc c) v u d k s foster head x
  unfolding make.copied
  copy_sound =
      let r = copy_fields.kind in
      made_sound o copy_made room (plain_kind m (suc c) (make.tag_of m n) room may.single may.allowed) (omega arith)
      (words_other o.texts (old_texts (made_old copy_made)) (omega arith)) o.sizes.pieces

  pub copy_up : Upd (up m) (up (make.copied m (suc c) n)) (suc c) 0
  unfolding make.copied
  copy_up =
      let r = copy_fields.kind in
      up_made o copy_made room (plain_kind m (suc c) (make.tag_of m n) room may.single may.allowed) (omega arith)
      (words_other o.texts (old_texts (made_old copy_made)) (omega arith)) o.sizes.pieces

-- ---- the order

module _ {up up₁ : ℕ → ℕ} {c d : ℕ} (l : List ℕ) (i : ℕ) (e : d ≡ length l) (o : Natural up c (take d l)) (u₁ : Upd up up₁ (suc c) 0) where
  all : take d (set l i (suc c)) ≡ set l i (suc c)
  all = take_all d (set l i (suc c)) (omega (arith, length-set l i (suc c)))

  order : Natural up c l
  order = rw (take_all d l (omega arith)) at o

  -- the copy on the stack
  pub cloned : i < d → Natural up₁ (suc c) (take d (set l i (suc c)))
  cloned h =
      rw (all, set_split l i (suc c) (omega arith))
      (ord→natural (clone (take i l) (at l i) (drop (suc i) l) (natural→ord (rw (split_at l i 0 (omega arith)) at order)) u₁))

  -- and the next element under it
  pub adopted_order : {up₂ up₃ : ℕ → ℕ} → suc i < d → Upd up₁ up₂ (at l (suc i)) 0 → Upd up₂ up₃ (at l (suc i)) (suc c)
      → Natural up₃ (suc c) (take d (set l i (suc c)))
  adopted_order h u₂ u₃ =
      let g = drop-cons l (suc i) 0 (omega arith) in
      let w : l ≡ take i l ++ at l i ∷ at l (suc i) ∷ drop (suc (suc i)) l = split_at l i 0 (omega arith) ∙ ap (λ (y : List ℕ). take i l ++ at l i ∷ y) g in
      rw (all, set_split l i (suc c) (omega arith), g)
      (ord→natural (copied (take i l) (at l i) (at l (suc i)) (drop (suc (suc i)) l) u₁ u₂ u₃ (natural→ord (rw w at order))))

pub open_swapped : {m l l' : List ℕ} {d i n : ℕ} → Open m l d → Upd (at l) (at l') i n → 0 < i → field m n KIND ≡ ELEMENT → Open m l' d
open_swapped {m} {l} {l'} {d} {i} {n} o w z h =
    record {
      some = o.some;
      root = w.old 0 (omega arith) ∙ o.root;
      elements = λ k b. by k b (ℕ_discrete k i);
    }
  where
    by : (k : ℕ) → k < d → Dec (k ≡ i) → field m (at l' k) KIND ≡ ELEMENT
    by k b (yes e) = rw (e, w.new) h
    by k b (no e) = rw (w.old k e) (o.elements k b)

-- ---- the copy takes the places of entry i of the stack, which is entry j of the list

-- the bytes with the copy, and the state with the copy on the stack
abbrev copy_of : Full → ℕ → List ℕ
copy_of f i = make.copied f.nodes.mem (suc f.nodes.used) (at f.stack.held i)

abbrev standing : Full → ℕ → Full
standing f i = with_stack (with_nodes f (copy_of f i) (suc f.nodes.used)) (swapped f.stack i (suc f.nodes.used))

-- the next element leaves its parent, and becomes a child of the copy
abbrev loose : Full → ℕ → List ℕ
loose f i = detached (copy_of f i) (at f.stack.held (suc i))

abbrev hung : Full → ℕ → List ℕ
hung f i = attached (loose f i) (End (node (suc f.nodes.used))) (at f.stack.held (suc i))

module _ (f : Full) (s : SoundFull f) (i j : ℕ) (z : 0 < i) (h : suc i < f.stack.size) (b : j < f.list.size)
    (same : at f.list.held j ≡ at f.stack.held i) (room : suc f.nodes.used < slots NODES f.nodes.mem) where
  -- the next element on the stack
  next_is : (0 < at f.stack.held (suc i)) × (at f.stack.held (suc i) ≤ f.nodes.used)
  next_is = open_used s.sound (suc i) h

  next_root : at f.stack.held (suc i) ≢ 2
  unfolding places.at
  next_root e = stack_once f s 0 (suc i) (omega arith) h (s.sound.tree.stack.root ∙ sym e)

  may : Copyable f.nodes.mem f.pairs.mem f.pairs.used (at f.stack.held i)
  may =
      let w = open_used s.sound i (omega arith) in
      rw same at (entry_copyable s.sound j b (λ e. omega (arith, same, s.sound.sizes.nodes.0)))

  copy_is : Fields (copy_of f i) (suc f.nodes.used) ELEMENT (make.tag_of f.nodes.mem (at f.stack.held i)) 0 0
  copy_is = copy_fields s.sound (at f.stack.held i) may room

  standing_sound : SoundFull (standing f i)
  unfolding with_nodes swapped
  standing_sound =
      let r = copy_sound s.sound (at f.stack.held i) may room in
      let a = s.stack.all in
      let n = suc f.nodes.used in
      stack_sound (with_nodes f (copy_of f i) n) (nodes_sound f s (copy_of f i) n r) (swapped f.stack i n) (swapped_whole f.stack s.stack i n)
      (omega (arith, length-set f.stack.held i n, s.places))
      (cloned f.stack.held i a s.sound.tree.order (copy_up s.sound (at f.stack.held i) may room) (omega arith))
      (open_swapped r.tree.stack (upd_set f.stack.held i n (omega arith)) z copy_is.kind)

  next_element : field (copy_of f i) (at f.stack.held (suc i)) KIND ≡ ELEMENT
  next_element =
      let r = next_is in
      (copy_made s.sound (at f.stack.held i) may room).others (at f.stack.held (suc i)) KIND (omega arith) refl ∙ s.sound.tree.stack.elements (suc i) h

  loose_sound : Over (standing f i) (loose f i) f.pieces.mem f.pairs.mem (suc f.nodes.used) f.pieces.used f.pairs.used
  unfolding with_nodes with_stack swapped
  loose_sound = detached_sound standing_sound.sound (at f.stack.held (suc i)) next_is.0 (omega (arith, next_is.1)) next_element next_root

  copy_kind : field (loose f i) (suc f.nodes.used) KIND ≡ ELEMENT
  copy_kind = detached_field (copy_of f i) (suc f.nodes.used) KIND kind_free (at f.stack.held (suc i)) ∙ copy_is.kind

  next_kind : field (loose f i) (at f.stack.held (suc i)) KIND ≡ ELEMENT
  next_kind = detached_field (copy_of f i) (at f.stack.held (suc i)) KIND kind_free (at f.stack.held (suc i)) ∙ next_element

  next_child : Child (loose f i) (hung f i) (suc f.nodes.used) loose_sound.tree.children.kids (suc f.nodes.used) (at f.stack.held (suc i))
  unfolding with_nodes with_stack swapped
  next_child =
      let r = copy_kind in
      attached_child (forest loose_sound) (End (node (suc f.nodes.used)))
      (record { some = omega arith; used = omega arith; text = omega arith; comment = omega arith; sibling = tt })
      (at f.stack.held (suc i)) next_is.0 (omega (arith, next_is.1))
      (detached_parent standing_sound.sound (at f.stack.held (suc i)) next_is.0 (omega (arith, next_is.1)) next_element)

  hung_sound : Over (standing f i) (hung f i) f.pieces.mem f.pairs.mem (suc f.nodes.used) f.pieces.used f.pairs.used
  unfolding with_nodes with_stack swapped
  hung_sound =
      let r = copy_kind in
      let y = next_kind in
      let t = s.sound.tree.top.two in
      attached_sound loose_sound next_child (omega arith) (omega arith) (omega arith) (omega arith) (λ g. omega arith)
      (detached_parent standing_sound.sound (at f.stack.held (suc i)) next_is.0 (omega (arith, next_is.1)) next_element)
      (adopted_order f.stack.held i s.stack.all s.sound.tree.order (copy_up s.sound (at f.stack.held i) may room) h
      (detached_up standing_sound.sound (at f.stack.held (suc i)) next_is.0 (omega (arith, next_is.1)) next_element)
      (child_up next_child (omega arith)))

  -- the copy's fields that are no links
  copy_late : (g : ℕ) → TIE ≤ g → g < 16 → field (hung f i) (suc f.nodes.used) g ≡ field (copy_of f i) (suc f.nodes.used) g
  copy_late g a d = next_child.fields (suc f.nodes.used) g (late_free g a d) ∙ detached_field (copy_of f i) (suc f.nodes.used) g (late_free g a d) (at f.stack.held (suc i))

  copy_new : New (hung f i) (suc f.nodes.used) f.list.held (suc f.nodes.used)
  copy_new =
      record {
        used = (omega arith, omega arith);
        html = (next_child.fields (suc f.nodes.used) KIND kind_free ∙ copy_kind, copy_late SPACE (omega arith) (omega arith) ∙ copy_is.space ∙ may.html);
        name = rw (copy_late NAME (omega arith) (omega arith) ∙ copy_is.name) may.named;
        absent = λ a d. absent a (omega (arith, s.list.all));
      }
    where
      absent : (a : ℕ) → a < f.list.size → at f.list.held a ≢ suc f.nodes.used
      absent a d e =
          let few = hung_sound.sizes.nodes.0 in
          omega (arith, (s.sound.entries.entry a d).used (λ g. omega arith))

  renewed_full : SoundFull (with_list (with_stack (with_nodes f (hung f i) (suc f.nodes.used)) (swapped f.stack i (suc f.nodes.used))) (swapped f.list j (suc f.nodes.used)))
  unfolding with_nodes with_stack swapped
  renewed_full =
      let n = suc f.nodes.used in
      list_sound (with_nodes (standing f i) (hung f i) n) (nodes_sound (standing f i) standing_sound (hung f i) n hung_sound) (swapped f.list j n)
      (swapped_whole f.list s.list j n) s.sound.places.entries.0 (entries_swapped j hung_sound.entries s.list.all copy_new)

  pub renewed_sound : SoundFull (renewed_in f i j (at f.stack.held (suc i)))
  unfolding renewed_in renewed places.at attached
  renewed_sound = rw add-one renewed_full

  -- what stays of the bytes
  pub renewed_size : length (renewed_in f i j (at f.stack.held (suc i))).nodes.mem ≡ length f.nodes.mem
  unfolding renewed_in renewed places.at attached with_nodes with_stack with_list
  renewed_size =
      rw add-one
      (next_child.size ∙ length_detached (copy_of f i) (at f.stack.held (suc i)) ∙ (copy_made s.sound (at f.stack.held i) may room).size)

  pub renewed_field : (n g : ℕ) → n ≤ f.nodes.used → NoLink g → field (renewed_in f i j (at f.stack.held (suc i))).nodes.mem n g ≡ field f.nodes.mem n g
  unfolding renewed_in renewed places.at attached with_nodes with_stack with_list
  renewed_field n g a d =
      rw add-one
      (next_child.fields n g d ∙ detached_field (copy_of f i) n g d (at f.stack.held (suc i))
      ∙ (copy_made s.sound (at f.stack.held i) may room).others n g (omega arith) d.below)

  -- the copy is of the kind, namespace and name of what it stands for
  pub renewed_copy :
      (field (renewed_in f i j (at f.stack.held (suc i))).nodes.mem (f.nodes.used + 1) KIND ≡ field f.nodes.mem (at f.stack.held i) KIND)
      × (field (renewed_in f i j (at f.stack.held (suc i))).nodes.mem (f.nodes.used + 1) SPACE ≡ field f.nodes.mem (at f.stack.held i) SPACE)
      × (field (renewed_in f i j (at f.stack.held (suc i))).nodes.mem (f.nodes.used + 1) NAME ≡ field f.nodes.mem (at f.stack.held i) NAME)
  unfolding renewed_in renewed places.at attached with_nodes with_stack with_list make.tag_of
  renewed_copy =
      rw add-one (
        next_child.fields (suc f.nodes.used) KIND kind_free ∙ copy_kind ∙ sym (s.sound.tree.stack.elements i (omega arith)),
        copy_late SPACE (omega arith) (omega arith) ∙ copy_is.space,
        copy_late NAME (omega arith) (omega arith) ∙ copy_is.name,
      )
