-- Laws of `stored`: its length, what each place holds, two runs of stores side by side, and one in a part that is lent. Assumes nothing.
use mathlib.Core.Path.{◌≡◌, refl, sym, ap, subst, ◌∙◌}
use mathlib.Core.Logic.{◌≢◌}
use Prim.Native.Nat.{ℕ, zero, suc, ◌+◌, ◌-◌, ◌<◌, ◌≤◌}
use native.Mathlib.Nat.{le_antisymm, not-suc-le-zero, suc-add, zero-add}
use native.Mathlib.Numerals.{add-one}
use native.Mathlib.Decide.{ℕ_discrete}
use native.Mathlib.Omega.{arith}
use mathlib.Core.List.{List, [], ◌∷◌, ◌++◌}
use lib.ListN.{length, get_or, set, take, drop, length-set, length-drop}
use lib.Seq.{get_or-set_same, get_or-set_other, length-take-le, set-append_left}
use borrow.Rule.Slice.PartMut.{mid_of, post_of, put_mid, put_same}
use Rattle.encoding.specs.Stored.{stored}

before-ne : (at m i : ℕ) → i < at → i ≢ at + m
before-ne at m i h e = omega arith

after-ne : (at m i : ℕ) → at + suc m ≤ i → i ≢ at + m
after-ne at m i h e = omega arith

after-le : (at m i : ℕ) → at + suc m ≤ i → at + m ≤ i
after-le at m i h = omega arith

other-ne : (at j m : ℕ) → (j ≡ m → ⊥) → at + j ≢ at + m
other-ne at j m n e = n (omega arith)

below : (j m : ℕ) → j < suc m → (j ≡ m → ⊥) → j < m
below j m h n = omega arith

up : (j m : ℕ) → j < m → j < suc m
up j m h = omega arith

top : (m : ℕ) → m < suc m
top m = omega arith

sum-assoc : (at m n : ℕ) → at + m + n ≡ at + (m + n)
sum-assoc at m n = omega arith

sum-suc : (m n : ℕ) → suc (m + n) ≡ m + suc n
sum-suc m n = omega arith

sum-none : (m : ℕ) → m ≡ m + zero
sum-none m = omega arith

front : (at k n : ℕ) → at + k ≤ n → at ≤ n
front at k n h = omega arith

less : (m k : ℕ) → suc m ≤ k → m ≤ k
less m k h = omega arith

within : (at k n : ℕ) → at + k ≤ n → k ≤ n - at
within at k n h = omega arith

module _ {A : Type 0} where
  pub mid-length : (at k : ℕ) (s : List A) → at + k ≤ length s → length (mid_of at k s) ≡ k
  mid-length at k s h = length-take-le k (drop at s) (subst (λ (n : ℕ). k ≤ n) (sym (length-drop at s)) (within at k (length s) h))

  pub length-stored : (at m : ℕ) (f : ℕ → A) (s : List A) → length (stored at m f s) ≡ length s
  unfolding stored
  length-stored at zero f s = refl
  length-stored at (suc m) f s = length-set (stored at m f s) (at + m) (f m) ∙ length-stored at m f s

  pub stored-before : (at m : ℕ) (f : ℕ → A) (s : List A) (i : ℕ) (d : A) → i < at → get_or (stored at m f s) i d ≡ get_or s i d
  unfolding stored
  stored-before at zero f s i d h = refl
  stored-before at (suc m) f s i d h = get_or-set_other (stored at m f s) (at + m) i (f m) d (before-ne at m i h) ∙ stored-before at m f s i d h

  pub stored-after : (at m : ℕ) (f : ℕ → A) (s : List A) (i : ℕ) (d : A) → at + m ≤ i → get_or (stored at m f s) i d ≡ get_or s i d
  unfolding stored
  stored-after at zero f s i d h = refl
  stored-after at (suc m) f s i d h = get_or-set_other (stored at m f s) (at + m) i (f m) d (after-ne at m i h) ∙ stored-after at m f s i d (after-le at m i h)

  pub stored-in : (at m : ℕ) (f : ℕ → A) (s : List A) (j : ℕ) (d : A) → j < m → at + j < length s → get_or (stored at m f s) (at + j) d ≡ f j
  unfolding stored
  stored-in at zero f s j d h l = absurd (not-suc-le-zero h)
  stored-in at (suc m) f s j d h l = go (ℕ_discrete j m) (λ p. stored-in at m f s j d p l)
    where
      go : Dec (j ≡ m) → (j < m → get_or (stored at m f s) (at + j) d ≡ f j) → get_or (set (stored at m f s) (at + m) (f m)) (at + j) d ≡ f j
      go (yes e) r =
          subst (λ (k : ℕ). get_or (set (stored at m f s) (at + m) (f m)) (at + k) d ≡ f k) (sym e)
          (get_or-set_same (stored at m f s) (at + m) (f m) d (subst (λ (n : ℕ). at + m < n) (sym (length-stored at m f s)) (subst (λ (k : ℕ). at + k < length s) e l)))
      go (no n) r = get_or-set_other (stored at m f s) (at + m) (at + j) (f m) d (other-ne at j m n) ∙ r (below j m h n)

  pub stored-cong : (at m : ℕ) (f g : ℕ → A) (s : List A) → ((j : ℕ) → j < m → f j ≡ g j) → stored at m f s ≡ stored at m g s
  unfolding stored
  stored-cong at zero f g s h = refl
  stored-cong at (suc m) f g s h = λ i. set (stored-cong at m f g s (λ j p. h j (up j m p)) i) (at + m) (h m (top m) i)

  pub stored-none : (at : ℕ) (f : ℕ → A) (s : List A) → s ≡ stored at 0 f s
  unfolding stored
  stored-none at f s = refl

  -- what a loop over m stores has done at its end
  pub stored-all : (at m j : ℕ) (f : ℕ → A) (s t : List A) → t ≡ stored at j f s → j ≤ m → m ≤ j → t ≡ stored at m f s
  stored-all at m j f s t e h g = e ∙ ap (λ (k : ℕ). stored at k f s) (le_antisymm h g)

  -- one store more
  pub stored_next : (at m : ℕ) (f : ℕ → A) (s t : List A) (v : A) → t ≡ stored at m f s → v ≡ f m → set t (at + m) v ≡ stored at (m + 1) f s
  unfolding stored
  stored_next at m f s t v p q = (λ i. set (p i) (at + m) (q i)) ∙ ap (λ (k : ℕ). stored at k f s) (sym (add-one m))

  -- and at a list's front
  pub stored-front : (m : ℕ) (f : ℕ → A) (s t : List A) (v : A) → t ≡ stored 0 m f s → v ≡ f m → set t m v ≡ stored 0 (m + 1) f s
  stored-front m f s t v p q = ap (λ (k : ℕ). set t k v) (sym (zero-add m)) ∙ stored_next 0 m f s t v p q

  -- a run of stores that goes on where another ended
  pub stored_more : (at m n : ℕ) (f g : ℕ → A) (s : List A) → ((j : ℕ) → j < n → g j ≡ f (m + j)) → stored (at + m) n g (stored at m f s) ≡ stored at (m + n) f s
  unfolding stored
  stored_more at m zero f g s h = ap (λ (k : ℕ). stored at k f s) (sum-none m)
  stored_more at m (suc n) f g s h =
      (λ i. set (stored_more at m n f g s (λ j p. h j (up j n p)) i) (sum-assoc at m n i) (h n (top n) i))
      ∙ ap (λ (k : ℕ). stored at k f s) (sum-suc m n)

  set-append-add : (xs ys : List A) (j : ℕ) (v : A) → set (xs ++ ys) (length xs + j) v ≡ xs ++ set ys j v
  set-append-add [] ys j v = ap (λ (k : ℕ). set ys k v) (zero-add j)
  set-append-add (x ∷ xs) ys j v =
      ap (λ (k : ℕ). set (x ∷ (xs ++ ys)) k v) (suc-add (length xs) j) ∙ ap (λ (r : List A). x ∷ r) (set-append-add xs ys j v)

  -- a store in the middle part of a list
  set-mid : (at m : ℕ) (xs ys zs : List A) (v : A) → length xs ≡ at → m < length ys → xs ++ (set ys (0 + m) v ++ zs) ≡ set (xs ++ (ys ++ zs)) (at + m) v
  set-mid at m xs ys zs v e h =
      ap (λ (k : ℕ). xs ++ (set ys k v ++ zs)) (zero-add m)
      ∙ ap (λ (r : List A). xs ++ r) (sym (set-append_left ys zs m v h))
      ∙ sym (set-append-add xs (ys ++ zs) m v)
      ∙ ap (λ (k : ℕ). set (xs ++ (ys ++ zs)) (k + m) v) e

  -- a run of stores in a part of a list that is lent
  pub stored-part : (at k m : ℕ) (f : ℕ → A) (s : List A) → m ≤ k → at + k ≤ length s → put_mid at k s (stored 0 m f (mid_of at k s)) ≡ stored at m f s
  unfolding stored
  stored-part at k zero f s h l = put_same at k s
  stored-part at k (suc m) f s h l =
      set-mid at m (take at s) (stored 0 m f (mid_of at k s)) (post_of at k s) (f m)
      (length-take-le at s (front at k (length s) l))
      (subst (λ (n : ℕ). m < n) (sym (length-stored 0 m f (mid_of at k s) ∙ mid-length at k s l)) h)
      ∙ ap (λ (x : List A). set x (at + m) (f m)) (stored-part at k m f s (less m k h) l)
