-- The operations on links, on lists of children: `Forest m c kids` says that the nodes 1 to c of the memory m have the children `kids`.
-- After append, insert before, detach and move, the lists of the nodes concerned change as the names say, and no other list does.
-- Assumes nothing.
use Rattle.std.proofs.Common.{subst, ℕ, ◌≤◌, ◌<◌, ◌≡◌, refl, sym, ap, ◌∙◌, ◌≢◌, ◌⊎◌, inl, inr, true, List, [], ◌∷◌, ◌++◌, append-nil, arith, lt_irrefl, length, lt-ltb}
use Rattle.std.proofs.Math.Decide.{ℕ_discrete}
use Rattle.theory.specs.Fn.{In, Upd, put, put_upd}
use Rattle.theory.specs.Kids as kids
use Rattle.theory.specs.Kids.{hd, lst, Run, Kids, run_in, run_part, lst_or, hd_or}
use Rattle.theory.specs.Pigeon.{Once, Within, pigeon, kids_walk}
use Rattle.theory.specs.Stores as stores
use Rattle.lent.specs.Mem.{NODES, slots, inside, field, PARENT, PREV, NEXT, FIRST, LAST}
use Rattle.arena.specs.Links.{appended, detached, inserted, spliced, moved}
use Rattle.lent.specs.Tree as tree
use Rattle.lent.specs.Tree.{children}
use Rattle.arena.proofs.Laws.{detached_none, moved_none, moved_some}
use Rattle.arena.proofs.Stores.{append_links, detach_links, insert_links, splice_links}
use Rattle.arena.proofs.Lengths.{slots_appended, slots_detached, slots_inserted, slots_moved}

-- the nodes 1 to c lie in the memory, and their children are `kids`
pub record Forest (m : List ℕ) (c : ℕ) (kids : ℕ → List ℕ) : Type 0 where
  pub held : c < slots NODES m
  pub parents : (n : ℕ) → 0 < n → n ≤ c → field m n PARENT ≤ c
  pub are : Kids (tree.links m) c kids

few : (m : List ℕ) → slots NODES m ≤ 4097
unfolding slots
few m = omega arith

held_in : (m : List ℕ) {c n : ℕ} → c < slots NODES m → n ≤ c → inside NODES m n ≡ true
unfolding inside
held_in m {c} {n} h l = lt-ltb n (slots NODES m) (omega arith)

-- the lists are what the links give
pub children_are : {m : List ℕ} {c : ℕ} {kids : ℕ → List ℕ} → Forest m c kids → (p : ℕ) → 0 < p → p ≤ c → kids p ≡ children m p
unfolding children
children_are {m} {c} f p z l = kids_walk f.are p z l 4096 (omega (arith, f.held, few m))

module _ {m : List ℕ} {c : ℕ} {ks : ℕ → List ℕ} (f : Forest m c ks) where
  used_in : (n : ℕ) → n ≤ c → inside NODES m n ≡ true
  used_in n l = held_in m f.held l

  kid : (p : ℕ) → 0 < p → p ≤ c → (y : ℕ) → In y (ks p) → (0 < y) × (y ≤ c) × (field m y PARENT ≡ p)
  kid p z l y i = run_in (tree.links m) c p 0 (ks p) 0 y (f.are.run p z l) i

  -- the last child of p is none or used
  last_used : (p : ℕ) → 0 < p → p ≤ c → field m p LAST ≢ 0 → inside NODES m (field m p LAST) ≡ true
  last_used p z l d = used_in (field m p LAST) (by (lst_or 0 (ks p)))
    where
      e : field m p LAST ≡ lst 0 (ks p)
      e = f.are.last p z l

      by : (lst 0 (ks p) ≡ 0) ⊎ In (lst 0 (ks p)) (ks p) → field m p LAST ≤ c
      by (inl q) = absurd (d (e ∙ q))
      by (inr i) = rw e (kid p z l (lst 0 (ks p)) i).1

  -- parents stay used where one node gets the parent q
  parents_upd : (m' : List ℕ) {x q : ℕ} → q ≤ c → Upd (tree.links m).par (tree.links m').par x q → (n : ℕ) → 0 < n → n ≤ c → field m' n PARENT ≤ c
  parents_upd m' {x} {q} h u n z l = by (ℕ_discrete n x)
    where
      by : Dec (n ≡ x) → field m' n PARENT ≤ c
      by (yes e) = rw (e, u.new) h
      by (no d) = rw (u.old n d) (f.parents n z l)

  -- x, which has no parent, becomes the last child of p
  append_at : (p x : ℕ) → 0 < p → p ≤ c → 0 < x → x ≤ c → field m x PARENT ≡ 0 → stores.Append (tree.links m) (tree.links (appended m p x)) p x
  append_at p x pz pc xz xc h = append_links m p x (used_in p pc) (used_in x xc) (last_used p pz pc) (f.are.loose x xz xc h).0

  pub appended_parents : (p x : ℕ) → 0 < p → p ≤ c → 0 < x → x ≤ c → field m x PARENT ≡ 0 → Upd (tree.links m).par (tree.links (appended m p x)).par x p
  appended_parents p x pz pc xz xc h = (append_at p x pz pc xz xc h).par

  pub appended_children : (p x : ℕ) → 0 < p → p ≤ c → 0 < x → x ≤ c → field m x PARENT ≡ 0 → Forest (appended m p x) c (put ks p (ks p ++ x ∷ []))
  appended_children p x pz pc xz xc h =
      let t = append_at p x pz pc xz xc h in
      record {
        held = rw (slots_appended m p x) f.held;
        parents = parents_upd (appended m p x) pc t.par;
        are = stores.appended f.are p x pz pc xz xc h t;
      }

  -- the neighbours of a child s of p, between a and b
  module _ (s : ℕ) (sz : 0 < s) (sc : s ≤ c) (pz : field m s PARENT ≢ 0) (a b : List ℕ) (e : ks (field m s PARENT) ≡ a ++ s ∷ b) where
    p : ℕ
    p = field m s PARENT

    p_used : (0 < field m s PARENT) × (field m s PARENT ≤ c)
    p_used = (omega arith, f.parents s sz sc)

    run : Run (tree.links m) c (field m s PARENT) 0 (a ++ s ∷ b) 0
    run = rw e at (f.are.run (field m s PARENT) p_used.0 p_used.1)

    is_prev : field m s PREV ≡ lst 0 a
    is_prev = (run_part (tree.links m) c (field m s PARENT) 0 a (s ∷ b) 0 run).1.3

    is_next : field m s NEXT ≡ hd b 0
    is_next = (run_part (tree.links m) c (field m s PARENT) 0 a (s ∷ b) 0 run).1.4

    here : (y : ℕ) → In y (a ++ s ∷ b) → (0 < y) × (y ≤ c) × (field m y PARENT ≡ field m s PARENT)
    here y i = kid (field m s PARENT) p_used.0 p_used.1 y (rw e i)

    not_zero : ¬ In 0 (a ++ s ∷ b)
    not_zero i = lt_irrefl 0 (here 0 i).0

    prev_or : (field m s PREV ≡ 0) ⊎ In (field m s PREV) a
    prev_or = rw is_prev (lst_or 0 a)

    next_or : (field m s NEXT ≡ 0) ⊎ In (field m s NEXT) b
    next_or = rw is_next (hd_or b 0)

    prev_in : field m s PREV ≢ 0 → inside NODES m (field m s PREV) ≡ true
    prev_in d = by prev_or
      where
        by : (field m s PREV ≡ 0) ⊎ In (field m s PREV) a → inside NODES m (field m s PREV) ≡ true
        by (inl q) = absurd (d q)
        by (inr i) = used_in _ (here _ (kids.in_left _ a (s ∷ b) i)).1

    next_in : field m s NEXT ≢ 0 → inside NODES m (field m s NEXT) ≡ true
    next_in d = by next_or
      where
        by : (field m s NEXT ≡ 0) ⊎ In (field m s NEXT) b → inside NODES m (field m s NEXT) ≡ true
        by (inl q) = absurd (d q)
        by (inr i) = used_in _ (here _ (kids.in_right _ a (s ∷ b) (inr i))).1

    prev_not : field m s PREV ≢ s
    prev_not d = by prev_or
      where
        by : (field m s PREV ≡ 0) ⊎ In (field m s PREV) a → ⊥
        by (inl q) = omega arith
        by (inr i) = kids.run_apart (tree.links m) c (field m s PARENT) 0 a (s ∷ b) 0 s not_zero run (rw d at i) (inl refl)

    next_not : field m s NEXT ≢ s
    next_not d = by next_or
      where
        tail : Run (tree.links m) c (field m s PARENT) (lst 0 a) (s ∷ b) 0
        tail = (run_part (tree.links m) c (field m s PARENT) 0 a (s ∷ b) 0 run).1

        fresh : ¬ In (lst 0 a) (s ∷ b)
        fresh i = go (lst_or 0 a)
          where
            go : (lst 0 a ≡ 0) ⊎ In (lst 0 a) a → ⊥
            go (inl q) = not_zero (kids.in_right 0 a (s ∷ b) (subst (λ (z : ℕ). In z (s ∷ b)) q i))
            go (inr j) = kids.run_apart (tree.links m) c (field m s PARENT) 0 a (s ∷ b) 0 (lst 0 a) not_zero run j i

        by : (field m s NEXT ≡ 0) ⊎ In (field m s NEXT) b → ⊥
        by (inl q) = omega arith
        by (inr i) = kids.run_once (tree.links m) c (field m s PARENT) (lst 0 a) s b 0 fresh tail (rw d at i)

    -- it leaves
    detach_at : stores.Detach (tree.links m) (tree.links (detached m s)) s
    detach_at = detach_links m s (used_in s sc) (used_in (field m s PARENT) p_used.1) prev_in next_in prev_not next_not pz

    pub detached_parents : Upd (tree.links m).par (tree.links (detached m s)).par s 0
    detached_parents = detach_at.par

    pub detached_children : Forest (detached m s) c (put ks (field m s PARENT) (a ++ b))
    detached_children =
        let t = detach_at in
        record {
          held = rw (slots_detached m s) f.held;
          parents = parents_upd (detached m s) (omega arith) t.par;
          are = stores.detached f.are s a b p_used.0 p_used.1 e t;
        }

    -- x, which has no parent, comes right before it
    insert_at : (x : ℕ) → 0 < x → x ≤ c → field m x PARENT ≡ 0 → stores.Before (tree.links m) (tree.links (inserted m s x)) x s
    insert_at x xz xc h = insert_links m s x (used_in s sc) (used_in x xc) (used_in (field m s PARENT) p_used.1) prev_in other_s other_l
      where
        other_s : x ≢ s
        other_s d = pz (rw d at h)

        other_l : field m s PREV ≢ x
        other_l d = by prev_or
          where
            by : (field m s PREV ≡ 0) ⊎ In (field m s PREV) a → ⊥
            by (inl q) = omega arith
            by (inr i) = pz (sym (here x (kids.in_left x a (s ∷ b) (rw d at i))).2 ∙ h)

    pub inserted_parents : (x : ℕ) → 0 < x → x ≤ c → field m x PARENT ≡ 0 → Upd (tree.links m).par (tree.links (inserted m s x)).par x (field m s PARENT)
    inserted_parents x xz xc h = (insert_at x xz xc h).par

    pub inserted_children : (x : ℕ) → 0 < x → x ≤ c → field m x PARENT ≡ 0 → Forest (inserted m s x) c (put ks (field m s PARENT) (a ++ x ∷ s ∷ b))
    inserted_children x xz xc h =
        let t = insert_at x xz xc h in
        record {
          held = rw (slots_inserted m s x) f.held;
          parents = parents_upd (inserted m s x) p_used.1 t.par;
          are = stores.inserted f.are x s a b p_used.0 p_used.1 xz xc h e t;
        }

  -- a node without a parent stays as it is
  pub detached_loose : (x : ℕ) → field m x PARENT ≡ 0 → detached m x ≡ m
  detached_loose x h = detached_none m x refl h

  few_of : (xs : List ℕ) → Once xs × Within c xs → length xs ≤ 4096
  few_of xs w = omega (arith, pigeon c xs w.0 w.1, f.held, few m)

  -- where a has children, `moved` is the splice
  module _ (a b : ℕ) (ne : a ≢ b) (az : 0 < a) (ac : a ≤ c) (bz : 0 < b) (bc : b ≤ c) where
    moved_is : (x : ℕ) (xs : List ℕ) → ks a ≡ x ∷ xs → spliced m a b (field m a FIRST) (field m a LAST) (field m b LAST) ≡ moved m a b
    moved_is x xs e =
        let u = kid a az ac x (rw e (inl refl)) in
        let first : field m a FIRST ≡ x = f.are.first a az ac ∙ ap (λ (q : List ℕ). hd q 0) e in
        sym (moved_some m a b refl (rw first (omega (arith, u.0))))

    moved_same : ks a ≡ [] → moved m a b ≡ m
    moved_same e = moved_none m a b refl (f.are.first a az ac ∙ ap (λ (q : List ℕ). hd q 0) e)

    moved_links : (x : ℕ) (xs : List ℕ) → ks a ≡ x ∷ xs → kids.Move (tree.links m) (tree.links (moved m a b)) c a b (ks a) (ks b)
    moved_links x xs e = rw (moved_is x xs e) at (splice_links m c a b ks f.are ne az ac bz bc used_in few_of x xs e)

    -- the children of a get the parent b, and no other node another parent
    pub moved_parents : (n : ℕ) → 0 < n → n ≤ c → (field m n PARENT ≡ a → field (moved m a b) n PARENT ≡ b) × (field m n PARENT ≢ a → field (moved m a b) n PARENT ≡ field m n PARENT)
    moved_parents n z l = by (ks a) refl
      where
        by : (xs : List ℕ) → ks a ≡ xs → (field m n PARENT ≡ a → field (moved m a b) n PARENT ≡ b) × (field m n PARENT ≢ a → field (moved m a b) n PARENT ≡ field m n PARENT)
        by [] e = (λ q. absurd (rw (q, e) at (f.are.own n z l (omega (arith, q, az)))), λ d. rw (moved_same e))
        by (x ∷ xs) e = let t = moved_links x xs e in (t.par n z l, t.pars n z l)

  -- the children of a become the last children of b, in order
  pub moved_children : (a b : ℕ) → a ≢ b → 0 < a → a ≤ c → 0 < b → b ≤ c → Forest (moved m a b) c (put (put ks a []) b (ks b ++ ks a))
  moved_children a b ne az ac bz bc =
      record { held = rw (slots_moved m a b) f.held; parents = λ n z l. par n z l (ℕ_discrete (field m n PARENT) a); are = lists (ks a) refl }
    where
      ks' : ℕ → List ℕ
      ks' = put (put ks a []) b (ks b ++ ks a)

      at_a : ks' a ≡ []
      at_a = (put_upd (put ks a []) b (ks b ++ ks a)).old a ne ∙ (put_upd ks a []).new

      at_b : ks' b ≡ ks b ++ ks a
      at_b = (put_upd (put ks a []) b (ks b ++ ks a)).new

      else_where : (y : ℕ) → y ≢ a → y ≢ b → ks' y ≡ ks y
      else_where y d e = (put_upd (put ks a []) b (ks b ++ ks a)).old y e ∙ (put_upd ks a []).old y d

      same : ks a ≡ [] → (y : ℕ) → ks' y ≡ ks y
      same e y = go (ℕ_discrete y a) (ℕ_discrete y b)
        where
          go : Dec (y ≡ a) → Dec (y ≡ b) → ks' y ≡ ks y
          go (yes d) g = rw d (at_a ∙ sym e)
          go (no d) (yes g) = rw g (at_b ∙ ap (λ (q : List ℕ). ks b ++ q) e ∙ append-nil (ks b))
          go (no d) (no g) = else_where y d g

      par : (n : ℕ) → 0 < n → n ≤ c → Dec (field m n PARENT ≡ a) → field (moved m a b) n PARENT ≤ c
      par n z l (yes d) = rw ((moved_parents a b ne az ac bz bc n z l).0 d) bc
      par n z l (no d) = rw ((moved_parents a b ne az ac bz bc n z l).1 d) (f.parents n z l)

      lists : (xs : List ℕ) → ks a ≡ xs → Kids (tree.links (moved m a b)) c ks'
      lists [] e = rw (moved_same a b ne az ac bz bc e) (kids.kids_same f.are (same e))
      lists (x ∷ xs) e = kids.moved f.are a b ne az ac bz bc (moved_links a b ne az ac bz bc x xs e) at_a at_b else_where
