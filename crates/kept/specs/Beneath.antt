-- An open element gets another parent: the order stays, if that one is an open element before it or an ancestor of one, or the contents
-- of such a node. The appropriate place is there, if the target and the open tables and templates stand before the element.
-- Assumes nothing.
use Rattle.std.proofs.Common.{ℕ, zero, suc, ◌≤◌, ◌<◌, refl, ◌∙◌, inl, inr, arith, not-suc-le-zero, le_of_suc-le-suc, take_all, List, [], ◌∷◌}
use Rattle.std.specs.Prelude.{◌≡◌, ◌≢◌, Bool, true, false, cond, length, get_or, take, drop}
use Rattle.std.proofs.Math.Seq.{split_at}
use Rattle.names.specs.Tag as tag
use Rattle.theory.specs.Fn.{Upd, In}
use Rattle.theory.specs.Ord.{Ord, Out, link, link_under}
use Rattle.theory.specs.Natural.{Natural, near, lower}
use Rattle.theory.specs.Anc.{Reach}
use Rattle.theory.specs.Rank.{before}
use Rattle.lent.specs.Mem.{field, up, PARENT, TIE}
use Rattle.arena.proofs.Ancestors.{up_parent, up_tie}
use Rattle.places.specs.Places.{at}
use Rattle.state.specs.Full.{Full}
use Rattle.sound.specs.State.{SoundFull}
use Rattle.standard.specs.Html.{is_html}
use Rattle.standard.specs.Place.{node, pick, end_of, before_table, is_foster_stop, appropriate_place}
use Rattle.standard.specs.declared.Place.{Place}
use Rattle.standard.specs.declared.Place.TheVariants.{End, Before}
use Rattle.kept.specs.Attach.{parent_at}
use Rattle.kept.specs.Relocate.{Aside}
use Rattle.kept.specs.Usual.{Inside, Html, is_html_lem, entry, at_appropriate}

-- ---- the order

in_take : (xs : List ℕ) (i j : ℕ) → i < j → i < length xs → In (get_or xs i 0) (take j xs)
in_take [] i j h l = absurd (not-suc-le-zero l)
in_take (x ∷ xs) i zero h l = absurd (not-suc-le-zero h)
in_take (x ∷ xs) zero (suc j) h l = inl refl
in_take (x ∷ xs) (suc i) (suc j) h l = inr (in_take xs i j (le_of_suc-le-suc h) (le_of_suc-le-suc l))

pub out_of : (x : ℕ) (xs : List ℕ) → ((i : ℕ) → i < length xs → get_or xs i 0 ≢ x) → Out x xs
out_of x [] h = tt
out_of x (y ∷ xs) h = (h 0 (omega arith), out_of x xs (λ i l. h (suc i) (omega arith)))

out_at : (x : ℕ) (xs : List ℕ) → Out x xs → (i : ℕ) → i < length xs → get_or xs i 0 ≢ x
out_at x [] o i l = absurd (not-suc-le-zero l)
out_at x (y ∷ xs) o zero l = o.0
out_at x (y ∷ xs) o (suc i) l = out_at x xs o.1 i (le_of_suc-le-suc l)

-- p may be the parent of entry j
pub data Beneath (up : ℕ → ℕ) (stk : List ℕ) (j p : ℕ) : Type 0 where
  over : (i : ℕ) → i < j → Reach up p (get_or stk i 0) → Beneath up stk j p
  contents : (i : ℕ) → i < j → Reach up (up p) (get_or stk i 0) → up p ≢ 0 → Out p stk → Beneath up stk j p

module _ {up : ℕ → ℕ} {c : ℕ} {stk : List ℕ} (o : Ord up c stk) where
  -- an earlier entry ranks lower, and is a used node
  earlier : (i j : ℕ) → i < j → j < length stk → (o.rank (get_or stk i 0) < o.rank (get_or stk j 0)) × (0 < get_or stk i 0) × (get_or stk i 0 ≤ c)
  earlier i j h l =
      before o.rank c 0 (take j stk) (get_or stk j 0) (drop (suc j) stk) (get_or stk i 0) (in_take stk i j h (omega arith)) (rw (← (split_at stk j 0 l)) o.chain)

  reach_le : {a n : ℕ} → Reach up a n → n ≤ c → o.rank a ≤ o.rank n
  reach_le (inl e) h = rw e (omega arith)
  reach_le (inr r) h = let t = lower o r h in omega arith

  pub beneath_order : {up' : ℕ → ℕ} (j p : ℕ) → j < length stk → 0 < p → p ≤ c → Beneath up stk j p → Upd up up' (get_or stk j 0) p → Ord up' c stk
  beneath_order j p l pz pc (over i h r) u =
      let t = earlier i j h l in
      let g = reach_le r t.2 in
      link (get_or stk j 0) p o u pc (λ _. omega (arith, t.0))
  beneath_order j p l pz pc (contents i h r z out) u =
      let t = earlier i j h l in
      let g = reach_le r t.2 in
      link_under (get_or stk j 0) p o u pz pc z out (out_at p stk out j l) (omega (arith, t.0))

-- ---- the appropriate place

-- entry j may be put there
pub record Fit (m stk : List ℕ) (j : ℕ) (w : Place) : Type 0 where
  pub beneath : Beneath (up m) stk j (parent_at m w)
  pub aside : Aside (get_or stk j 0) w

module _ (f : Full) (s : SoundFull f) where
  -- the order of the whole stack
  pub take_whole : take f.stack.size f.stack.held ≡ f.stack.held
  take_whole = take_all f.stack.size f.stack.held (omega (arith, s.stack.all))

  pub whole_order : Natural (up f.nodes.mem) f.nodes.used f.stack.held
  whole_order = rw take_whole at s.sound.tree.order

  module _ (j : ℕ) (jd : j < f.stack.size) where
    end_fit : (i n : ℕ) → i < j → Inside f.nodes.mem f.nodes.used n → Reach (up f.nodes.mem) n (get_or f.stack.held i 0)
        → Fit f.nodes.mem f.stack.held j (end_of f.nodes.mem n)
    unfolding end_of
    end_fit i n h w r = by (is_html m n tag.template) refl
      where
        m : List ℕ
        m = f.nodes.mem

        by : (b : Bool) → is_html m n tag.template ≡ b → Fit m f.stack.held j (End (node (cond b (field m n TIE) n)))
        by true e =
            let g = is_html_lem m n tag.template e in
            let t = ((s.sound.tree.kinds.kind n w.some w.used).element w.kind).ties.tied (record { kind = g.kind; space = g.space; name = g.name }) in
            let a : up m (field m n TIE) ≡ n = up_tie m (field m n TIE) t.1 ∙ t.0.back in
            let out = out_of (field m n TIE) f.stack.held
            (λ k l q. omega (arith, t.1, rw q at (s.sound.tree.stack.elements k (omega (arith, s.stack.all))))) in
            record { beneath = contents i h (rw a r) (rw a (omega (arith, w.some))) out; aside = tt }
        by false e = record { beneath = over i h r; aside = tt }

    table_fit : (k : ℕ) → k < j → Html f.nodes.mem (at f.stack k) tag.table → field f.nodes.mem (at f.stack k) PARENT ≢ 0
        → Fit f.nodes.mem f.stack.held j (before_table f.nodes.mem (at f.stack k))
    unfolding before_table at
    table_fit k h w z = by (is_html m (field m n PARENT) tag.template) refl
      where
        m : List ℕ
        m = f.nodes.mem

        n : ℕ
        n = get_or f.stack.held k 0

        g : Inside m f.nodes.used n
        g = entry f s k (omega arith)

        parent : Reach (up m) (field m n PARENT) n
        parent = let e = g.kind in inr (near {n = n} (omega (arith, g.some)) z (up_parent m n (omega arith)))

        by : (b : Bool) → is_html m (field m n PARENT) tag.template ≡ b → Fit m f.stack.held j (pick b (end_of m (field m n PARENT)) (Before (node n)))
        by true e =
            end_fit k (field m n PARENT) h
            (record { some = omega arith; used = s.sound.tree.children.parent n g.some g.used; kind = (is_html_lem m (field m n PARENT) tag.template e).kind })
            parent
        by false e = record { beneath = over k h parent; aside = whole_order.apart k j h (omega (arith, s.stack.all)) }

    pub appropriate_fit : ((k : ℕ) → k < length f.stack.held → is_foster_stop f.nodes.mem (at f.stack k) ≡ true → k < j) → (i : ℕ) → i < j
        → Fit f.nodes.mem f.stack.held j (appropriate_place f.nodes.mem f.stack f.flags.foster (at f.stack i))
    unfolding at
    appropriate_fit stops i h =
        at_appropriate f j stops (omega arith) (Fit f.nodes.mem f.stack.held j)
        (λ k b. end_fit k (at f.stack k) b (entry f s k (omega arith)) (inl refl))
        table_fit
        i h
