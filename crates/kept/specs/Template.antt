-- A new HTML `template` and its contents, and the template put at a place: a sound state stays sound.
-- Assumes nothing.
use Rattle.std.specs.Prelude.{ℕ, suc, ◌≤◌, ◌<◌, ◌≡◌, refl, ◌≢◌, true, false, List, [], ◌∷◌, ◌++◌, length, take, eqb, ltb, Option}
use Rattle.std.proofs.Common.{sym, ◌∙◌, arith}
use Rattle.std.proofs.Math.Decide.{ℕ_discrete}
use Rattle.names.specs.Space as space
use Rattle.names.specs.Tag as tag
use Rattle.theory.specs.Fn.{Upd, put, put_upd}
use Rattle.theory.specs.Ord.{born, push}
use Rattle.theory.specs.Natural.{Natural, natural→ord, ord→natural}
use Rattle.lent.specs.Mem.{NODES, slots, inside, field, up, KIND, PARENT, TIE, SPACE, NAME, MARK, START, COUNT, PIECE, END, ELEMENT, TEXT, CONTENTS}
use Rattle.lent.proofs.Kit.{reads, length_store}
use Rattle.makers.specs.Make.{bare, plain, tied}
use Rattle.makers.specs.declared.make.Tag.{Tag}
use Rattle.makers.proofs.Made.{Made, Fields, no_tag, bare_made, bare_fields, plain_made, plain_fields, tied_field, tied_other, tied_both, made_children}
use Rattle.arena.proofs.Children.{Forest}
use Rattle.arena.proofs.Lengths.{slots_same}
use Rattle.arena.proofs.Ancestors.{up_parent, up_tie, up_same}
use Rattle.nodes.specs.Nodes.{SPARE, Template, Kind}
use Rattle.texts.specs.Words.{Words}
use Rattle.state.specs.declared.Context.{Context}
use Rattle.sound.specs.Sound.{Sound}
use Rattle.standard.specs.declared.Place.{Place}
use Rattle.standard.specs.Place.{attached}
use Rattle.kept.specs.Room.{held_in, slots_nodes}
use Rattle.kept.specs.Same.{changed, names_refl}
use Rattle.kept.specs.Pieces.{words_other}
use Rattle.kept.specs.Attach.{parent_at, Spot, Child, attached_child, child_up, forest, attached_sound}
use Rattle.kept.specs.Fresh.{clear_none, clear_more, Tagged, Allowed, fresh_element, fresh_contents}
use Rattle.kept.specs.Grow.{Old, old_same, old_links, old_texts, old_parent, old_spot}

-- the two nodes, x and the one after it
abbrev pub pair_of : List ℕ → ℕ → Tag → List ℕ
pair_of m x g = tied (bare (plain m x g) (suc x) CONTENTS) x (suc x)

module _ (m : List ℕ) (x : ℕ) (g : Tag) (room : suc x < slots NODES m) where
  in_x : inside NODES m x ≡ true
  in_x = held_in NODES m x (omega arith)

  made_x : Made m (plain m x g) x
  made_x = plain_made m x in_x g

  fields_x : Fields (plain m x g) x ELEMENT g 0 0
  fields_x = plain_fields m x in_x g

  room_y : suc x < slots NODES (plain m x g)
  room_y = rw (slots_same m (plain m x g) made_x.size) room

  made_y : Made (plain m x g) (bare (plain m x g) (suc x) CONTENTS) (suc x)
  made_y = bare_made (plain m x g) (suc x) (held_in NODES (plain m x g) (suc x) room_y) CONTENTS

  fields_y : Fields (bare (plain m x g) (suc x) CONTENTS) (suc x) CONTENTS no_tag 0 0
  fields_y = bare_fields (plain m x g) (suc x) (held_in NODES (plain m x g) (suc x) room_y) CONTENTS

  size_y : slots NODES (bare (plain m x g) (suc x) CONTENTS) ≡ slots NODES m
  size_y = slots_same m (bare (plain m x g) (suc x) CONTENTS) (made_y.size ∙ made_x.size)

  pub pair_length : length (pair_of m x g) ≡ length m
  unfolding tied
  pair_length = simp length_store (made_y.size ∙ made_x.size)

  pub pair_others : (k f : ℕ) → k ≢ x → k ≢ suc x → ltb f 16 ≡ true → field (pair_of m x g) k f ≡ field m k f
  pair_others k f d e b =
      tied_other (bare (plain m x g) (suc x) CONTENTS) x (suc x) k f b d e ∙ made_y.others k f e b ∙ made_x.others k f d b

  -- the fields of the two, but the tie
  at_x : (f : ℕ) → ltb f 16 ≡ true → eqb TIE f ≡ false → field (pair_of m x g) x f ≡ field (plain m x g) x f
  at_x f b d = tied_field (bare (plain m x g) (suc x) CONTENTS) x (suc x) x f b d ∙ made_y.others x f (omega arith) b

  at_y : (f : ℕ) → ltb f 16 ≡ true → eqb TIE f ≡ false → field (pair_of m x g) (suc x) f ≡ field (bare (plain m x g) (suc x) CONTENTS) (suc x) f
  at_y f b d = tied_field (bare (plain m x g) (suc x) CONTENTS) x (suc x) (suc x) f b d

  pub pair_tagged : Tagged (pair_of m x g) x g
  pair_tagged =
      record {
        kind = at_x KIND refl refl ∙ fields_x.kind;
        parent = at_x PARENT refl refl ∙ made_x.parent;
        space = at_x SPACE refl refl ∙ fields_x.space;
        name = at_x NAME refl refl ∙ fields_x.name;
        mark = at_x MARK refl refl ∙ fields_x.mark;
        start = at_x START refl refl ∙ fields_x.start;
        count = at_x COUNT refl refl ∙ fields_x.count;
        piece = at_x PIECE refl refl ∙ fields_x.piece;
        end = at_x END refl refl ∙ fields_x.end;
      }

  pub pair_tied : (field (pair_of m x g) x TIE ≡ suc x) × (field (pair_of m x g) (suc x) TIE ≡ x)
  pair_tied =
      tied_both (bare (plain m x g) (suc x) CONTENTS) x (suc x)
      (held_in NODES (bare (plain m x g) (suc x) CONTENTS) x (rw size_y (omega arith)))
      (held_in NODES (bare (plain m x g) (suc x) CONTENTS) (suc x) (rw size_y room)) (omega arith)

  pub pair_contents : field (pair_of m x g) (suc x) KIND ≡ CONTENTS
  pair_contents = at_y KIND refl refl ∙ fields_y.kind

  -- the one is an element that has the other as its contents
  module _ (c u : ℕ) (q : List ℕ) (here : suc x ≤ c) (xz : 0 < x) (is : (g.space ≡ space.html) × (g.name ≡ tag.template)) where
    host : Template (pair_of m x g) x
    host = let t = pair_tagged in record { kind = t.kind; space = t.space ∙ is.0; name = t.name ∙ is.1 }

    pub template_kind : Allowed q u g → Kind (pair_of m x g) q c u x
    template_kind ok =
        fresh_element pair_tagged ok
        (record {
          tied =
              λ t. (
                record {
                  some = λ e. omega (arith, pair_tied.0);
                  used = rw pair_tied.0 here;
                  back = rw pair_tied.0 pair_tied.1;
                },
                rw pair_tied.0 pair_contents,
              );
          untied = λ t. absurd (t host);
        })

    pub contents_kind : Kind (pair_of m x g) q c u (suc x)
    contents_kind =
        fresh_contents pair_contents
        (record {
          parent = at_y PARENT refl refl ∙ made_y.parent;
          partner =
              record {
                some = λ e. omega (arith, pair_tied.1);
                used = rw pair_tied.1 (omega arith);
                back = rw pair_tied.1 pair_tied.0;
              };
          host = rw pair_tied.1 host;
          clear =
              clear_more SPACE (at_y SPACE refl refl ∙ fields_y.space)
              (clear_more NAME (at_y NAME refl refl ∙ fields_y.name)
              (clear_more MARK (at_y MARK refl refl ∙ fields_y.mark)
              (clear_more START (at_y START refl refl ∙ fields_y.start)
              (clear_more COUNT (at_y COUNT refl refl ∙ fields_y.count)
              (clear_more PIECE (at_y PIECE refl refl ∙ fields_y.piece)
              (clear_more END (at_y END refl refl ∙ fields_y.end) (clear_none (pair_of m x g) (suc x) SPARE)))))));
        })

  -- going up
  pub pair_up : (up (pair_of m x g) x ≡ 0) × (up (pair_of m x g) (suc x) ≡ x) × ((n : ℕ) → n ≢ x → n ≢ suc x → up (pair_of m x g) n ≡ up m n)
  pair_up = (
    up_parent (pair_of m x g) x (let e = pair_tagged.kind in omega arith) ∙ pair_tagged.parent,
    up_tie (pair_of m x g) (suc x) pair_contents ∙ pair_tied.1,
    λ n d e. up_same m (pair_of m x g) n (pair_others n KIND d e refl) (pair_others n TIE d e refl) (pair_others n PARENT d e refl),
  )

  -- children
  pub pair_forest : {c : ℕ} {ks : ℕ → List ℕ} → x ≡ suc c → Forest m c ks → Forest (pair_of m x g) (suc x) (put (put ks x []) (suc x) [])
  unfolding tied
  pair_forest {c} {ks} e f =
      record {
        held = rw (slots_same m (pair_of m x g) pair_length) room;
        parents = simp reads two.parents;
        are = simp reads two.are;
      }
    where
      one : Forest (plain m x g) x (put ks x [])
      one = rw e (made_children f (rw e at (let h : x < slots NODES m = omega arith in h)) (rw e at made_x))

      two : Forest (bare (plain m x g) (suc x) CONTENTS) (suc x) (put (put ks x []) (suc x) [])
      two = made_children one room_y made_y

-- ---- two nodes that come together, the second below the first

pub record Two (up up' : ℕ → ℕ) (c b : ℕ) : Type 0 where
  pub first : up' (suc c) ≡ b
  pub second : up' (suc (suc c)) ≡ suc c
  pub rest : (n : ℕ) → n ≢ suc c → n ≢ suc (suc c) → up' n ≡ up n

two_upd : {up up' : ℕ → ℕ} {c b : ℕ} → Two up up' c b → Upd (put up (suc c) b) up' (suc (suc c)) (suc c)
two_upd {up} {up'} {c} {b} w = record { new = w.second; old = λ n d. by n d (ℕ_discrete n (suc c)) }
  where
    by : (n : ℕ) → n ≢ suc (suc c) → Dec (n ≡ suc c) → up' n ≡ put up (suc c) b n
    by n d (yes e) = rw e (w.first ∙ sym (put_upd up (suc c) b).new)
    by n d (no e) = w.rest n e d ∙ sym ((put_upd up (suc c) b).old n e)

two_born : {up up' : ℕ → ℕ} {c b : ℕ} {stk : List ℕ} → Natural up c stk → b ≤ c → Two up up' c b → Natural up' (suc (suc c)) stk
two_born {up} {up'} {c} {b} o h w =
    ord→natural (born (suc c) (born b (natural→ord o) (put_upd up (suc c) b) h) (two_upd w) (omega arith))

two_pushed : {up up' : ℕ → ℕ} {c b : ℕ} {stk : List ℕ} → Natural up c stk → b ≤ c → Two up up' c b → Natural up' (suc (suc c)) (stk ++ suc c ∷ [])
two_pushed {up} {up'} {c} {b} o h w =
    ord→natural (born (suc c) (push b (natural→ord o) (put_upd up (suc c) b) h) (two_upd w) (omega arith))

-- ---- a sound state

module _ {m p q l f t : List ℕ} {c v u d k s foster head : ℕ} {x : Option Context} (o : Sound m p q l f t c v u d k s foster head x)
    (g : Tag) (room : suc (suc c) < slots NODES m) (ok : Allowed q u g) (is : (g.space ≡ space.html) × (g.name ≡ tag.template)) where
  old : Old m (pair_of m (suc c) g) c
  old = record { same = λ n i z h b. pair_others m (suc c) g room n i (omega arith) (omega arith) b }

  not_text : field (pair_of m (suc c) g) (suc c) KIND ≢ TEXT
  not_text = let e = (pair_tagged m (suc c) g room).kind in omega arith

  words : Words (pair_of m (suc c) g) p (suc (suc c)) v
  words =
      let e = pair_contents m (suc c) g room in
      words_other (words_other o.texts (old_texts old) not_text)
      (record { kind = λ n z h. refl; piece = λ n z h. refl; end = λ n z h. refl }) (omega arith)

  pair_sound : Sound (pair_of m (suc c) g) p q l f t (suc (suc c)) v u d k s foster head x
  pair_sound =
      let a = slots_nodes m (suc (suc c)) room in
      let r = pair_forest m (suc c) g room refl (forest o) in
      let z = pair_up m (suc c) g room in
      changed o
      (record {
        sizes = record { nodes = (a.0, rw (pair_length m (suc c) g room) a.1); pieces = o.sizes.pieces; pairs = o.sizes.pairs };
        more = omega arith;
        longer = omega arith;
        same = old_same old;
        links = old_links old;
        root = old.same 2 PARENT (omega arith) o.tree.top.two refl;
        names = names_refl q u;
        children = record { parent = r.parents; kids = _; is_kids = r.are };
        kinds = λ n i j. kind n i j (ℕ_discrete n (suc c));
        known = o.tree.names;
        order = two_born o.tree.order (omega arith) (record { first = z.0; second = z.1; rest = z.2 });
        texts = words;
      })
    where
      kind : (n : ℕ) → c < n → n ≤ suc (suc c) → Dec (n ≡ suc c) → Kind (pair_of m (suc c) g) q (suc (suc c)) u n
      kind n i j (yes e) = rw e (template_kind m (suc c) g room (suc (suc c)) u q (omega arith) (omega arith) is ok)
      kind n i j (no e) =
          let e' : n ≡ suc (suc c) = omega arith in
          rw e' (contents_kind m (suc c) g room (suc (suc c)) u q (omega arith) (omega arith) is)

  -- the template at its place
  module _ (a : Place) (b : Spot m c a) where
    spot : Spot (pair_of m (suc c) g) (suc (suc c)) a
    spot = old_spot old (omega arith) a b

    child : Child (pair_of m (suc c) g) (attached (pair_of m (suc c) g) a (suc c)) (suc (suc c)) pair_sound.tree.children.kids (parent_at m a) (suc c)
    child =
        rw (old_parent old a b.sibling) at
        (attached_child (forest pair_sound) a spot (suc c) (omega arith) (omega arith) (pair_tagged m (suc c) g room).parent)

    two : Two (up m) (up (attached (pair_of m (suc c) g) a (suc c))) c (parent_at m a)
    two =
        let z = pair_up m (suc c) g room in
        let r = child_up child (let e = (pair_tagged m (suc c) g room).kind in omega arith) in
        record {
          first = r.new;
          second = r.old (suc (suc c)) (omega arith) ∙ z.1;
          rest = λ n d e. r.old n d ∙ z.2 n d e;
        }

    pub template_sound : parent_at m a ≢ 1 → Sound (attached (pair_of m (suc c) g) a (suc c)) p q l f t (suc (suc c)) v u d k s foster head x
    template_sound ne =
        let e = (pair_tagged m (suc c) g room).kind in
        let r = old.same (parent_at m a) KIND b.some b.used refl in
        attached_sound pair_sound child (rw r b.text) (rw r b.comment) (omega arith) (omega arith) (λ h. ne) (pair_tagged m (suc c) g room).parent
        (two_born o.tree.order b.used two)

    pub template_order : Natural (up (attached (pair_of m (suc c) g) a (suc c))) (suc (suc c)) (take d l ++ suc c ∷ [])
    template_order = two_pushed o.tree.order b.used two
