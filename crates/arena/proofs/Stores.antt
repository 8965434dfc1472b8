-- What each operation on links does to the five links of every node, as the changes that `theory` knows.
-- Assumes nothing.
use Rattle.std.proofs.Common.{ℕ, zero, suc, ◌≤◌, ◌<◌, ◌≡◌, refl, sym, ap, ◌∙◌, ◌≢◌, ◌⊎◌, inl, inr, true, false, List, [], ◌∷◌, ◌++◌, arith, le_of_suc-le-suc, not-suc-le-zero, lt_irrefl, length, eqb, ltb, ne_eqb}
use Rattle.std.proofs.Math.Decide.{ℕ_discrete}
use Rattle.theory.specs.Fn.{In}
use Rattle.theory.specs.Kids.{hd, lst, Kids, Move, run_in, lst_or, lst_in}
use Rattle.theory.specs.Pigeon.{Once, Within, run_pigeon}
use Rattle.theory.specs.Path.{Path, path_same, run_path}
use Rattle.theory.specs.Stores as stores
use Rattle.lent.specs.Mem.{NODES, inside, field, put_field, link, PARENT, PREV, NEXT, FIRST, LAST}
use Rattle.lent.proofs.Kit as kit
use Rattle.lent.proofs.Kit.{links, reads}
use Rattle.arena.specs.Links.{appended, detached, unlinked, inserted, reparented, spliced}
use Rattle.lent.specs.Tree as tree
use Rattle.arena.proofs.Laws.{detached_some, reparented_none}

-- ---- append

module _ (m : List ℕ) (p x : ℕ) (ip : inside NODES m p ≡ true) (ix : inside NODES m x ≡ true)
    (il : field m p LAST ≢ 0 → inside NODES m (field m p LAST) ≡ true) (nx : field m x NEXT ≡ 0) where
  append_next : (n : ℕ) → n ≢ field m p LAST → Dec (n ≡ x) → field (appended m p x) n NEXT ≡ field m n NEXT
  unfolding appended
  append_next n d (yes e) = rw e (let d' : x ≢ field m p LAST = rw e at d in simp (links, ix, nx))
  append_next n d (no e) = simp links

  pub append_links : stores.Append (tree.links m) (tree.links (appended m p x)) p x
  unfolding appended
  append_links =
      record {
        par = record { new = simp (links, ix); old = λ n d. simp links };
        prev = record { new = simp (links, ix); old = λ n d. simp links };
        next = record { new = λ z. simp (links, kit.link_some, il z); old = λ n d. append_next n d (ℕ_discrete n x) };
        first = record { new = λ e. simp (links, kit.link_none, e, ip); kept = λ z. simp (links, kit.link_some); old = λ n d. simp links };
        last = record { new = simp (links, ip); old = λ n d. simp links };
      }

-- ---- detach

module _ (m : List ℕ) (x : ℕ) (ix : inside NODES m x ≡ true) (ip : inside NODES m (field m x PARENT) ≡ true)
    (il : field m x PREV ≢ 0 → inside NODES m (field m x PREV) ≡ true) (ir : field m x NEXT ≢ 0 → inside NODES m (field m x NEXT) ≡ true)
    (nl : field m x PREV ≢ x) (nr : field m x NEXT ≢ x) where
  unlink_links : stores.Detach (tree.links m) (tree.links (unlinked m x (field m x PARENT) (field m x PREV) (field m x NEXT))) x
  unfolding unlinked
  unlink_links =
      record {
        par = record { new = simp (links, ix); old = λ n d. simp links };
        nextx = simp (links, ix);
        prevx = simp (links, ix);
        nextl = λ z. simp (links, kit.link_some, il z);
        prevr = λ z. simp (links, kit.link_some, ir z);
        next = λ y d e. simp links;
        prev = λ y d e. simp links;
        first = record { new = λ e. simp (links, kit.link_none, e, ip); kept = λ z. simp (links, kit.link_some); old = λ n d. simp links };
        last = record { new = λ e. simp (links, kit.link_none, e, ip); kept = λ z. simp (links, kit.link_some); old = λ n d. simp links };
      }

  pub detach_links : field m x PARENT ≢ 0 → stores.Detach (tree.links m) (tree.links (detached m x)) x
  detach_links z = rw (detached_some m x refl z) unlink_links

-- ---- insert before

module _ (m : List ℕ) (s x : ℕ) (is : inside NODES m s ≡ true) (ix : inside NODES m x ≡ true) (ip : inside NODES m (field m s PARENT) ≡ true)
    (il : field m s PREV ≢ 0 → inside NODES m (field m s PREV) ≡ true) (ne : x ≢ s) (nl : field m s PREV ≢ x) where
  pub insert_links : stores.Before (tree.links m) (tree.links (inserted m s x)) x s
  unfolding inserted
  insert_links =
      record {
        par = record { new = simp (links, ix); old = λ n d. simp links };
        nextx = simp (links, ix);
        prevx = simp (links, ix);
        nextl = λ z. simp (links, kit.link_some, il z);
        prevs = simp (links, is);
        next = λ y d e. simp links;
        prev = λ y d e. simp links;
        first = record { new = λ e. simp (links, kit.link_none, e, ip); kept = λ z. simp (links, kit.link_some); old = λ n d. simp links };
        last = λ q. simp links;
      }

-- ---- move all children: a run of siblings gets another parent, and nothing else changes

rep_step : (m : List ℕ) (n b k : ℕ) → n ≢ 0 → reparented m n b (suc k) ≡ reparented (put_field m n PARENT b) (field m n NEXT) b k
unfolding reparented
rep_step m n b k h = simp (ne_eqb n 0 h, reads)

pub reparented_field : (m : List ℕ) (n b k y f : ℕ) → ltb f 16 ≡ true → eqb 1 f ≡ false → field (reparented m n b k) y f ≡ field m y f
unfolding reparented
reparented_field m n b zero y f t d = refl
reparented_field m n b (suc k) y f t d = by (ℕ_discrete n 0) (reparented_field (put_field m n PARENT b) (field m n NEXT) b k y f t d)
  where
    by : Dec (n ≡ 0) → field (reparented (put_field m n PARENT b) (field m n NEXT) b k) y f ≡ field (put_field m n PARENT b) y f
        → field (reparented m n b (suc k)) y f ≡ field m y f
    by (yes e) h = rw (reparented_none m n b (suc k) e)
    by (no e) h = rw (rep_step m n b k e) (h ∙ kit.load_field NODES m n PARENT b y f refl t d)

pub reparented_inside : (m : List ℕ) (n b k y : ℕ) → inside NODES (reparented m n b k) y ≡ inside NODES m y
unfolding reparented
reparented_inside m n b zero y = refl
reparented_inside m n b (suc k) y = by (ℕ_discrete n 0) (reparented_inside (put_field m n PARENT b) (field m n NEXT) b k y)
  where
    by : Dec (n ≡ 0) → inside NODES (reparented (put_field m n PARENT b) (field m n NEXT) b k) y ≡ inside NODES (put_field m n PARENT b) y
        → inside NODES (reparented m n b (suc k)) y ≡ inside NODES m y
    by (yes e) h = rw (reparented_none m n b (suc k) e)
    by (no e) h = rw (rep_step m n b k e) (h ∙ kit.inside_store NODES m n PARENT b y)

-- a node whose parent is b already keeps it
rep_kept : (m : List ℕ) (n b k y : ℕ) → inside NODES m y ≡ true → field m y PARENT ≡ b → field (reparented m n b k) y PARENT ≡ b
unfolding reparented
rep_kept m n b zero y i h = h
rep_kept m n b (suc k) y i h = by (ℕ_discrete n 0) (ℕ_discrete y n) (rep_kept (put_field m n PARENT b) (field m n NEXT) b k y)
  where
    by : Dec (n ≡ 0) → Dec (y ≡ n)
        → (inside NODES (put_field m n PARENT b) y ≡ true → field (put_field m n PARENT b) y PARENT ≡ b → field (reparented (put_field m n PARENT b) (field m n NEXT) b k) y PARENT ≡ b)
        → field (reparented m n b (suc k)) y PARENT ≡ b
    by (yes e) d g = rw (reparented_none m n b (suc k) e) h
    by (no e) (yes d) g = rw (rep_step m n b k e) (g (kit.inside_store NODES m n PARENT b y ∙ i) (rw d (kit.load_same NODES m n PARENT b (rw d at i) refl)))
    by (no e) (no d) g = rw (rep_step m n b k e) (g (kit.inside_store NODES m n PARENT b y ∙ i) (kit.load_slot NODES m n PARENT b y PARENT d refl refl ∙ h))

-- the chain from n by `next` in memory m
abbrev Sibs : List ℕ → ℕ → List ℕ → Type 0
Sibs m n xs = Path (λ y. field m y NEXT) n xs 0

sibs_put : (m : List ℕ) (a b n : ℕ) (xs : List ℕ) → Sibs m n xs → Sibs (put_field m a PARENT b) n xs
sibs_put m a b n xs p =
    path_same (λ y. field m y NEXT) (λ y. field (put_field m a PARENT b) y NEXT) n xs 0 (λ y i. kit.load_field NODES m a PARENT b y NEXT refl refl refl) p

rep_in : (m : List ℕ) (n b k : ℕ) (xs : List ℕ) (y : ℕ) → Sibs m n xs → length xs ≤ k → inside NODES m y ≡ true → In y xs → field (reparented m n b k) y PARENT ≡ b
rep_in m n b k [] y p l i h = absurd h
rep_in m n b zero (x ∷ xs) y p l i h = absurd (not-suc-le-zero l)
rep_in m n b (suc k) (x ∷ xs) y p l i h =
    let e : n ≢ 0 = λ z. p.1 (sym p.0 ∙ z) in
    let rest : Sibs (put_field m n PARENT b) (field m n NEXT) xs = sibs_put m n b (field m n NEXT) xs (rw p.0 p.2) in
    rw (rep_step m n b k e) (by h (rep_in (put_field m n PARENT b) (field m n NEXT) b k xs y rest (le_of_suc-le-suc l) i'))
  where
    i' : inside NODES (put_field m n PARENT b) y ≡ true
    i' = kit.inside_store NODES m n PARENT b y ∙ i

    by : (y ≡ x) ⊎ In y xs → (In y xs → field (reparented (put_field m n PARENT b) (field m n NEXT) b k) y PARENT ≡ b)
        → field (reparented (put_field m n PARENT b) (field m n NEXT) b k) y PARENT ≡ b
    by (inl d) g = rep_kept (put_field m n PARENT b) (field m n NEXT) b k y i' (let q : y ≡ n = d ∙ sym p.0 in rw q (kit.load_same NODES m n PARENT b (rw q at i) refl))
    by (inr j) g = g j

rep_out : (m : List ℕ) (n b k : ℕ) (xs : List ℕ) (y : ℕ) → Sibs m n xs → length xs ≤ k → ¬ In y xs → field (reparented m n b k) y PARENT ≡ field m y PARENT
rep_out m n b k [] y p l h = rw (reparented_none m n b k p)
rep_out m n b zero (x ∷ xs) y p l h = absurd (not-suc-le-zero l)
rep_out m n b (suc k) (x ∷ xs) y p l h =
    let e : n ≢ 0 = λ z. p.1 (sym p.0 ∙ z) in
    let d : y ≢ n = λ z. h (inl (z ∙ p.0)) in
    rw (rep_step m n b k e)
    (rep_out (put_field m n PARENT b) (field m n NEXT) b k xs y (sibs_put m n b (field m n NEXT) xs (rw p.0 p.2)) (le_of_suc-le-suc l) (λ j. h (inr j)) ∙ kit.load_slot NODES m n PARENT b y PARENT d refl refl)

-- the stores after that, from memory r to r'
record Joined (r r' : List ℕ) (a b f l z : ℕ) : Type 0 where
  parent : (y : ℕ) → field r' y PARENT ≡ field r y PARENT
  next : (y : ℕ) → y ≢ z → field r' y NEXT ≡ field r y NEXT
  prev : (y : ℕ) → y ≢ f → field r' y PREV ≡ field r y PREV
  left : z ≢ 0 → field r' z NEXT ≡ f
  right : field r' f PREV ≡ z
  from_first : field r' a FIRST ≡ 0
  from_last : field r' a LAST ≡ 0
  to_first_none : z ≡ 0 → field r' b FIRST ≡ f
  to_first_some : z ≢ 0 → field r' b FIRST ≡ field r b FIRST
  to_last : field r' b LAST ≡ l
  ends : (y : ℕ) → y ≢ a → y ≢ b → (field r' y FIRST ≡ field r y FIRST) × (field r' y LAST ≡ field r y LAST)

joined_all : (r : List ℕ) (a b f l z : ℕ) → a ≢ b → inside NODES r a ≡ true → inside NODES r b ≡ true → inside NODES r f ≡ true → (z ≢ 0 → inside NODES r z ≡ true)
    → Joined r (put_field (link (put_field (put_field (put_field r a FIRST 0) a LAST 0) f PREV z) z FIRST b NEXT f) b LAST l) a b f l z
joined_all r a b f l z ne ia ib if iz =
    record {
      parent = λ y. simp links;
      next = λ y d. simp links;
      prev = λ y d. simp links;
      left = λ d. simp (links, kit.link_some, iz d);
      right = simp (links, if);
      from_first = simp (links, ia);
      from_last = simp (links, ia);
      to_first_none = λ e. simp (links, kit.link_none, e, ib);
      to_first_some = λ d. simp (links, kit.link_some);
      to_last = simp (links, ib);
      ends = λ y d e. (simp links, simp links);
    }

-- the children xs of a go behind the children ys of b
module _ (m : List ℕ) (c a b : ℕ) (kids : ℕ → List ℕ) (k : Kids (tree.links m) c kids) (ne : a ≢ b) (az : 0 < a) (ac : a ≤ c) (bz : 0 < b) (bc : b ≤ c)
    (in' : (n : ℕ) → n ≤ c → inside NODES m n ≡ true) (few : (xs : List ℕ) → Once xs × Within c xs → length xs ≤ 4096) where
  kid : (p : ℕ) → 0 < p → p ≤ c → (y : ℕ) → In y (kids p) → (0 < y) × (y ≤ c) × (field m y PARENT ≡ p)
  kid p z l y i = run_in (tree.links m) c p 0 (kids p) 0 y (k.run p z l) i

  zero_out : (p : ℕ) → 0 < p → p ≤ c → ¬ In 0 (kids p)
  zero_out p z l i = lt_irrefl 0 (kid p z l 0 i).0

  end_in : field m b LAST ≢ 0 → inside NODES m (field m b LAST) ≡ true
  end_in d = in' (field m b LAST) (by (lst_or 0 (kids b)))
    where
      e : field m b LAST ≡ lst 0 (kids b)
      e = k.last b bz bc

      by : (lst 0 (kids b) ≡ 0) ⊎ In (lst 0 (kids b)) (kids b) → field m b LAST ≤ c
      by (inl q) = absurd (d (e ∙ q))
      by (inr i) = rw e (kid b bz bc (lst 0 (kids b)) i).1

  module _ (x : ℕ) (xs : List ℕ) (ea : kids a ≡ x ∷ xs) where
    is_first : field m a FIRST ≡ x
    is_first = k.first a az ac ∙ ap (λ (q : List ℕ). hd q 0) ea

    sibs : Path (λ y. field m y NEXT) (field m a FIRST) (kids a) 0
    sibs = rw (k.first a az ac) (run_path (tree.links m) c a 0 (kids a) (k.run a az ac))

    size : length (kids a) ≤ 4096
    size = few (kids a) (run_pigeon (tree.links m) c a 0 (kids a) 0 (zero_out a az ac) (k.run a az ac))

    r : List ℕ
    r = reparented m (field m a FIRST) b 4096

    r_in : (n : ℕ) → n ≤ c → inside NODES r n ≡ true
    unfolding r
    r_in n l = reparented_inside m (field m a FIRST) b 4096 n ∙ in' n l

    r_field : (y g : ℕ) → ltb g 16 ≡ true → eqb 1 g ≡ false → field r y g ≡ field m y g
    unfolding r
    r_field y g t d = reparented_field m (field m a FIRST) b 4096 y g t d

    x_used : (0 < x) × (x ≤ c) × (field m x PARENT ≡ a)
    x_used = kid a az ac x (rw ea (inl refl))

    first_in : inside NODES r (field m a FIRST) ≡ true
    first_in = r_in (field m a FIRST) (rw is_first x_used.1)

    last_in : field m b LAST ≢ 0 → inside NODES r (field m b LAST) ≡ true
    unfolding r
    last_in d = reparented_inside m (field m a FIRST) b 4096 (field m b LAST) ∙ end_in d

    first_to : (ys : List ℕ) → kids b ≡ ys → field (spliced m a b (field m a FIRST) (field m a LAST) (field m b LAST)) b FIRST ≡ hd (ys ++ kids a) 0
    unfolding spliced r
    first_to [] e =
        (joined_all r a b (field m a FIRST) (field m a LAST) (field m b LAST) ne (r_in a ac) (r_in b bc) first_in last_in).to_first_none (k.last b bz bc ∙ ap (lst 0) e) ∙ k.first a az ac
    first_to (y ∷ ys) e =
        let u = kid b bz bc (lst y ys) (rw e (lst_in y ys)) in
        let v : field m b LAST ≡ lst y ys = k.last b bz bc ∙ ap (lst 0) e in
        (joined_all r a b (field m a FIRST) (field m a LAST) (field m b LAST) ne (r_in a ac) (r_in b bc) first_in last_in).to_first_some (rw v (omega (arith, u.0)))
        ∙ r_field b FIRST refl refl ∙ k.first b bz bc ∙ ap (λ (q : List ℕ). hd q 0) e

    last_to : lst 0 (kids a) ≡ lst 0 (kids b ++ kids a)
    last_to = rw ea (sym (stores.lst_mid 0 x (kids b) xs))

    pub splice_links : Move (tree.links m) (tree.links (spliced m a b (field m a FIRST) (field m a LAST) (field m b LAST))) c a b (kids a) (kids b)
    unfolding spliced r
    splice_links =
        record {
          par = λ y z l e. j.parent y ∙ rep_in m (field m a FIRST) b 4096 (kids a) y sibs size (in' y l) (rw e at (k.own y z l (omega (arith, e, az))));
          pars = λ y z l d. j.parent y ∙ rep_out m (field m a FIRST) b 4096 (kids a) y sibs size (λ i. d (kid a az ac y i).2);
          next = λ y d. j.next y (rw end d) ∙ r_field y NEXT refl refl;
          prev = λ y d. j.prev y (rw (k.first a az ac) d) ∙ r_field y PREV refl refl;
          left = λ d. rw (← end) (j.left (rw end d)) ∙ k.first a az ac;
          right = λ d. rw (← k.first a az ac) j.right ∙ end;
          firstp = j.from_first;
          lastp = j.from_last;
          firstq = first_to (kids b) refl;
          lastq = j.to_last ∙ k.last a az ac ∙ last_to;
          ends = λ y d e. let t = j.ends y d e in (t.0 ∙ r_field y FIRST refl refl, t.1 ∙ r_field y LAST refl refl);
        }
      where
        end : field m b LAST ≡ lst 0 (kids b)
        end = k.last b bz bc

        j : Joined r (spliced m a b (field m a FIRST) (field m a LAST) (field m b LAST)) a b (field m a FIRST) (field m a LAST) (field m b LAST)
        j = joined_all r a b (field m a FIRST) (field m a LAST) (field m b LAST) ne (r_in a ac) (r_in b bc) first_in last_in
