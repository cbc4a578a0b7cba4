-- The laws of a number kind, as records over `Kind`: what the proofs about every routine rest on.
-- `Same` is equality as numbers; a number that the format holds is `Holds`, and every number of a slab is one.
use Rattle.std.specs.Prelude.{ℕ, ◌+◌, ◌*◌, ◌≤◌, ◌<◌, Bool, List, ◌≡◌, T, length, get_or}
use Rattle.number.specs.Kind.{Kind, Numbers, kind, Same, SameFactor, Holds, Finite}

-- ---- slabs

-- every number of the slab is one that the format holds
pub record Held (K : Kind) (s : List K.Cell) : Type 0 where
  pub cell : (i : ℕ) (d : K.Cell) → i < length s → T (K.holds_cell (get_or s i d))

-- equal as numbers in every place
pub record SameSlab (K : Kind) (s t : List K.Cell) : Type 0 where
  pub size : length s ≡ length t
  pub cell : (i : ℕ) (d : K.Cell) → i < length s → T (K.same_cell (get_or s i d) (get_or t i d))

-- reading and replacing an element
pub record SlabLaws (K : Kind) : Type 0 where
  pub length-put : (s : List K.Cell) (k : ℕ) (x : K.Elem) → length (K.put s k x) ≡ length s
  pub count-put : (s : List K.Cell) (k : ℕ) (x : K.Elem) → K.count (K.put s k x) ≡ K.count s
  pub at-put : (s : List K.Cell) (k : ℕ) (x : K.Elem) → k < K.count s → K.at (K.put s k x) k ≡ x
  pub at-put-other : (s : List K.Cell) (k j : ℕ) (x : K.Elem) → (j ≡ k → ⊥) → K.at (K.put s k x) j ≡ K.at s j
  -- a cell that is not one of element k's stays
  pub cell-put-below : (s : List K.Cell) (k i : ℕ) (x : K.Elem) (d : K.Cell) → i < K.width * k → get_or (K.put s k x) i d ≡ get_or s i d
  pub cell-put-above : (s : List K.Cell) (k i : ℕ) (x : K.Elem) (d : K.Cell) → K.width * k + K.width ≤ i → get_or (K.put s k x) i d ≡ get_or s i d
  pub at-holds : (s : List K.Cell) (k : ℕ) → Held K s → Holds K (K.at s k)
  pub put_holds : (s : List K.Cell) (k : ℕ) (x : K.Elem) → Held K s → Holds K x → Held K (K.put s k x)
  pub slab-refl : (s : List K.Cell) → SameSlab K s s
  pub at_same : {s t : List K.Cell} (k : ℕ) → SameSlab K s t → Same K (K.at s k) (K.at t k)
  pub put_same : {s t : List K.Cell} {x y : K.Elem} (k : ℕ) → SameSlab K s t → Same K x y → SameSlab K (K.put s k x) (K.put t k y)

-- ---- arithmetic

pub record Laws (K : Kind) : Type 0 where
  pub slab : SlabLaws K
  -- an equivalence
  pub same_refl : (x : K.Elem) → Same K x x
  pub same-sym : {x y : K.Elem} → Same K x y → Same K y x
  pub same-trans : {x y z : K.Elem} → Same K x y → Same K y z → Same K x z
  -- which the operations respect; division does not, at zeros
  pub add_cong : {x x' y y' : K.Elem} → Same K x x' → Same K y y' → Same K (K.add x y) (K.add x' y')
  pub sub-cong : {x x' y y' : K.Elem} → Same K x x' → Same K y y' → Same K (K.sub x y) (K.sub x' y')
  pub mul-cong : {x x' y y' : K.Elem} → Same K x x' → Same K y y' → Same K (K.mul x y) (K.mul x' y')
  pub conj-cong : {x x' : K.Elem} → Same K x x' → Same K (K.conj x) (K.conj x')
  pub scale-cong : {v v' : K.Factor} {x x' : K.Elem} → SameFactor K v v' → Same K x x' → Same K (K.scale_real v x) (K.scale_real v' x')
  pub is_zero-cong : {x x' : K.Elem} → Same K x x' → K.is_zero x ≡ K.is_zero x'
  pub is_one-cong : {x x' : K.Elem} → Same K x x' → K.is_one x ≡ K.is_one x'
  -- results are numbers that the format holds
  pub zero-holds : Holds K K.zero
  pub one_holds : Holds K K.one
  pub add_holds : (x y : K.Elem) → Holds K (K.add x y)
  pub sub_holds : (x y : K.Elem) → Holds K (K.sub x y)
  pub mul_holds : (x y : K.Elem) → Holds K (K.mul x y)
  pub div-holds : (x y : K.Elem) → Holds K (K.div x y)
  pub conj-holds : {x : K.Elem} → Holds K x → Holds K (K.conj x)
  pub scale-holds : (v : K.Factor) (x : K.Elem) → Holds K (K.scale_real v x)
  -- finite numbers
  pub zero-finite : Finite K K.zero
  pub one-finite : Finite K K.one
  pub conj-finite : {x : K.Elem} → Finite K x → Finite K (K.conj x)
  pub finite-same : {x y : K.Elem} → Same K x y → Finite K x → Finite K y
  -- zero and one
  pub zero-is-zero : K.is_zero K.zero ≡ Bool.true
  pub one-is-one : K.is_one K.one ≡ Bool.true
  pub one_is_not_zero : K.is_zero K.one ≡ Bool.false
  pub is-zero-same : {x : K.Elem} → K.is_zero x ≡ Bool.true → Same K x K.zero
  pub is-one-same : {x : K.Elem} → K.is_one x ≡ Bool.true → Same K x K.one
  pub add-zero : {x : K.Elem} → Holds K x → Same K (K.add x K.zero) x
  pub zero-add : {x : K.Elem} → Holds K x → Same K (K.add K.zero x) x
  pub sub-zero : {x : K.Elem} → Holds K x → Same K (K.sub x K.zero) x
  pub mul-zero : {x : K.Elem} → Finite K x → Same K (K.mul x K.zero) K.zero
  pub zero-mul : {x : K.Elem} → Finite K x → Same K (K.mul K.zero x) K.zero
  pub mul-one : {x : K.Elem} → Holds K x → Finite K x → Same K (K.mul x K.one) x
  pub one-mul : {x : K.Elem} → Holds K x → Finite K x → Same K (K.mul K.one x) x
  pub sub_self : {x : K.Elem} → Finite K x → Same K (K.sub x x) K.zero
  -- gradual underflow: a difference that is not zero does not round to zero
  pub sub-zero-same : {x y : K.Elem} → Holds K x → Holds K y → Same K (K.sub x y) K.zero → Same K x y
  -- the conjugate
  pub conj-zero : Same K (K.conj K.zero) K.zero
  pub conj-one : Same K (K.conj K.one) K.one
  pub conj-same : {x y : K.Elem} → Same K (K.conj x) (K.conj y) → Same K x y

-- ---- beside them

-- a product is the same in either order of its operands
pub record Commutes (K : Kind) : Type 0 where
  pub commutes : (x y : K.Elem) → K.mul x y ≡ K.mul y x

-- a number is its own conjugate
pub record SelfConjugate (K : Kind) : Type 0 where
  pub own : (x : K.Elem) → K.conj x ≡ x

-- elements at two places are replaced in either order
pub record Swaps (K : Kind) : Type 0 where
  pub swap : (s : List K.Cell) (k j : ℕ) (x y : K.Elem) → (j ≡ k → ⊥) → K.put (K.put s k x) j y ≡ K.put (K.put s j y) k x

-- what a type of numbers brings to every routine: the laws of its kind, and that slabs of one length have as many elements
pub record NumberLaws {C E F : Type 0} (n : Numbers C E F) : Type 0 where
  pub laws : Laws (kind n)
  pub commutes : Commutes (kind n)
  pub swaps : Swaps (kind n)
  pub counted : {s t : List C} → length s ≡ length t → n.count s ≡ n.count t

-- ---- exactness on whole numbers: K's operations beside those of the exact kind Z

-- x is the whole number z: equal as a number to z, written as a number of K
abbrev pub EqualsWhole : (K Z : Kind) → (Z.Elem → K.Elem) → K.Elem → Z.Elem → Type 0
EqualsWhole K Z of_whole x z = Same K x (of_whole z)

pub record Exact (K Z : Kind) : Type 0 where
  -- a whole number as an element and as a real factor, and its size
  pub of_whole : Z.Elem → K.Elem
  pub of_whole_factor : Z.Factor → K.Factor
  pub size : Z.Elem → ℕ
  pub size_factor : Z.Factor → ℕ
  -- every whole number up to it is held exactly
  pub bound : ℕ
  pub zero-exact : EqualsWhole K Z of_whole K.zero Z.zero
  pub one-exact : EqualsWhole K Z of_whole K.one Z.one
  pub add-exact : {x y : K.Elem} {a b : Z.Elem} → EqualsWhole K Z of_whole x a → EqualsWhole K Z of_whole y b → size a + size b ≤ bound
      → EqualsWhole K Z of_whole (K.add x y) (Z.add a b)
  pub sub-exact : {x y : K.Elem} {a b : Z.Elem} → EqualsWhole K Z of_whole x a → EqualsWhole K Z of_whole y b → size a + size b ≤ bound
      → EqualsWhole K Z of_whole (K.sub x y) (Z.sub a b)
  pub mul-exact : {x y : K.Elem} {a b : Z.Elem} → EqualsWhole K Z of_whole x a → EqualsWhole K Z of_whole y b → size a * size b ≤ bound
      → EqualsWhole K Z of_whole (K.mul x y) (Z.mul a b)
  pub conj-exact : {x : K.Elem} {a : Z.Elem} → EqualsWhole K Z of_whole x a → EqualsWhole K Z of_whole (K.conj x) (Z.conj a)
  pub scale-exact : {v : K.Factor} {x : K.Elem} {c : Z.Factor} {a : Z.Elem} → SameFactor K v (of_whole_factor c) → EqualsWhole K Z of_whole x a
      → size_factor c * size a ≤ bound → EqualsWhole K Z of_whole (K.scale_real v x) (Z.scale_real c a)
  pub is_zero-exact : {x : K.Elem} {a : Z.Elem} → EqualsWhole K Z of_whole x a → K.is_zero x ≡ Z.is_zero a
  pub is_one-exact : {x : K.Elem} {a : Z.Elem} → EqualsWhole K Z of_whole x a → K.is_one x ≡ Z.is_one a
  pub is_zero_factor-exact : {v : K.Factor} {c : Z.Factor} → SameFactor K v (of_whole_factor c) → K.is_zero_factor v ≡ Z.is_zero_factor c
  pub is_one_factor-exact : {v : K.Factor} {c : Z.Factor} → SameFactor K v (of_whole_factor c) → K.is_one_factor v ≡ Z.is_one_factor c
  pub size-zero : size Z.zero ≡ 0
  pub size-add : (a b : Z.Elem) → size (Z.add a b) ≤ size a + size b
  pub size-sub : (a b : Z.Elem) → size (Z.sub a b) ≤ size a + size b
  pub size-mul : (a b : Z.Elem) → size (Z.mul a b) ≤ size a * size b
  pub size-conj : (a : Z.Elem) → size (Z.conj a) ≡ size a
  pub size_scale : (c : Z.Factor) (a : Z.Elem) → size (Z.scale_real c a) ≤ size_factor c * size a
