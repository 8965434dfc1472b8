-- Ancestors after each operation. Going up leads from contents to their template, else to the parent.
-- Assumes nothing.
use Rattle.std.proofs.Common.{ℕ, ◌≤◌, ◌<◌, ◌≡◌, refl, sym, ◌∙◌, ◌≢◌, ◌⊎◌, ◌↔◌, List, ◌∷◌, ◌++◌, arith, eq-eqb, ne_eqb}
use Rattle.theory.specs.Fn.{Upd}
use Rattle.theory.specs.Natural.{Anc}
use Rattle.theory.specs.Anc as anc
use Rattle.theory.specs.Anc.{Reach}
use Rattle.lent.specs.Mem.{field, KIND, PARENT, TIE, CONTENTS, up}
use Rattle.arena.specs.Links.{appended, detached, inserted, moved}
use Rattle.arena.proofs.Children.{Forest, appended_parents, detached_parents, inserted_parents, moved_parents}
use Rattle.arena.proofs.Others.{NoLink, appended_field, inserted_field, detached_field, moved_field}

pub kind_free : NoLink KIND
kind_free = record { below = refl; parent = refl; prev = refl; next = refl; first = refl; last = refl }

pub tie_free : NoLink TIE
tie_free = record { below = refl; parent = refl; prev = refl; next = refl; first = refl; last = refl }

-- up of a node that is not contents, and of contents
pub up_parent : (m : List ℕ) (n : ℕ) → field m n KIND ≢ CONTENTS → up m n ≡ field m n PARENT
unfolding up
up_parent m n d = rw (ne_eqb (field m n KIND) CONTENTS d)

pub up_tie : (m : List ℕ) (n : ℕ) → field m n KIND ≡ CONTENTS → up m n ≡ field m n TIE
unfolding up
up_tie m n e = rw (eq-eqb (field m n KIND) CONTENTS e)

-- where kinds and ties stay, up changes as the parent does
pub up_same : (m m' : List ℕ) (n : ℕ) → field m' n KIND ≡ field m n KIND → field m' n TIE ≡ field m n TIE → field m' n PARENT ≡ field m n PARENT → up m' n ≡ up m n
unfolding up
up_same m m' n k t p = rw (k, t, p)

up_upd : (m m' : List ℕ) {x q : ℕ} → ((n : ℕ) → field m' n KIND ≡ field m n KIND) → ((n : ℕ) → field m' n TIE ≡ field m n TIE) → field m x KIND ≢ CONTENTS
    → Upd (λ n. field m n PARENT) (λ n. field m' n PARENT) x q → Upd (up m) (up m') x q
up_upd m m' {x} k t d u =
    record { new = up_parent m' x (rw (k x) d) ∙ u.new; old = λ n e. up_same m m' n (k n) (t n) (u.old n e) }

-- ---- append, insert before, detach: one node goes elsewhere

module _ {m : List ℕ} {c : ℕ} {ks : ℕ → List ℕ} (f : Forest m c ks) where
  pub appended_up : (p x : ℕ) → 0 < p → p ≤ c → 0 < x → x ≤ c → field m x PARENT ≡ 0 → field m x KIND ≢ CONTENTS → Upd (up m) (up (appended m p x)) x p
  appended_up p x pz pc xz xc h d =
      up_upd m (appended m p x) (λ n. appended_field m n KIND kind_free p x) (λ n. appended_field m n TIE tie_free p x) d (appended_parents f p x pz pc xz xc h)

  -- what x and all below it gain is exactly p and its ancestors
  pub appended_ancestors : (p x : ℕ) → 0 < p → p ≤ c → 0 < x → x ≤ c → field m x PARENT ≡ 0 → field m x KIND ≢ CONTENTS → x ≢ p → ¬ Anc (up m) x p
      → {a n : ℕ} → a ≢ 0 → Anc (up (appended m p x)) a n ↔ (Anc (up m) a n ⊎ (Reach (up m) x n × Reach (up m) a p))
  appended_ancestors p x pz pc xz xc h d ne na za =
      anc.link_anc_iff (appended_up p x pz pc xz xc h d) (omega arith) ne na (up_parent m x d ∙ h) za

  module _ (s : ℕ) (sz : 0 < s) (sc : s ≤ c) (pz : field m s PARENT ≢ 0) (a b : List ℕ) (e : ks (field m s PARENT) ≡ a ++ s ∷ b) where
    pub detached_up : field m s KIND ≢ CONTENTS → Upd (up m) (up (detached m s)) s 0
    detached_up d =
        up_upd m (detached m s) (λ n. detached_field m n KIND kind_free s) (λ n. detached_field m n TIE tie_free s) d (detached_parents f s sz sc pz a b e)

    -- only ancestors are lost
    pub detached_ancestors : field m s KIND ≢ CONTENTS → {x n : ℕ} → Anc (up (detached m s)) x n → Anc (up m) x n
    detached_ancestors d h = anc.detach_anc (detached_up d) h

    pub inserted_up : (x : ℕ) → 0 < x → x ≤ c → field m x PARENT ≡ 0 → field m x KIND ≢ CONTENTS → Upd (up m) (up (inserted m s x)) x (field m s PARENT)
    inserted_up x xz xc h d =
        up_upd m (inserted m s x) (λ n. inserted_field m n KIND kind_free s x) (λ n. inserted_field m n TIE tie_free s x) d (inserted_parents f s sz sc pz a b e x xz xc h)

    -- as append: what x and all below it gain is exactly the parent of s and its ancestors
    pub inserted_ancestors : (x : ℕ) → 0 < x → x ≤ c → field m x PARENT ≡ 0 → field m x KIND ≢ CONTENTS → x ≢ field m s PARENT → ¬ Anc (up m) x (field m s PARENT)
        → {y n : ℕ} → y ≢ 0 → Anc (up (inserted m s x)) y n ↔ (Anc (up m) y n ⊎ (Reach (up m) x n × Reach (up m) y (field m s PARENT)))
    inserted_ancestors x xz xc h d ne na za = anc.link_anc_iff (inserted_up x xz xc h d) (omega arith) ne na (up_parent m x d ∙ h) za

  -- ---- move: the children of a, contents not being children, are then below b
  pub moved_up : (a b : ℕ) → a ≢ b → 0 < a → a ≤ c → 0 < b → b ≤ c → (n : ℕ) → 0 < n → n ≤ c → field m n KIND ≢ CONTENTS
      → (up m n ≡ a → up (moved m a b) n ≡ b) × (up m n ≢ a → up (moved m a b) n ≡ up m n)
  moved_up a b ne az ac bz bc n z l d =
      let t = moved_parents f a b ne az ac bz bc n z l in
      let u = up_parent m n d in
      let v : up (moved m a b) n ≡ field (moved m a b) n PARENT = up_parent (moved m a b) n (rw (moved_field m n KIND kind_free a b) d) in
      (λ e. v ∙ t.0 (sym u ∙ e), λ e. v ∙ t.1 (λ q. e (u ∙ q)) ∙ sym u)

  pub moved_up_contents : (a b n : ℕ) → field m n KIND ≡ CONTENTS → up (moved m a b) n ≡ up m n
  moved_up_contents a b n e =
      up_tie (moved m a b) n (moved_field m n KIND kind_free a b ∙ e) ∙ moved_field m n TIE tie_free a b ∙ sym (up_tie m n e)
