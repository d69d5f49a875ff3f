-- Entries of a list: what holds of each of them, and whether an element is one.
use Rattle.std.proofs.Common.{◌≡◌, ℕ, ◌⊎◌, List, [], ◌∷◌, ◌++◌, refl, subst, inl, inr}
use Rattle.std.proofs.lemmas.Bool.{cases_eq}
use Rattle.polynomial.specs.Sums.{Each, Distinct}

abbrev pub In : {A : Type 0} → A → List A → Type 0
In b [] = ⊥
In b (a ∷ ls) = (a ≡ b) ⊎ In b ls

-- what holds of each element holds of the entries
pub all_of : {A : Type 0} (P : A → Type 0) → ((a : A) → P a) → (ls : List A) → Each P ls
all_of P f [] = tt
all_of P f (a ∷ ls) = (f a, all_of P f ls)

pub all_in : {A : Type 0} (P : A → Type 0) (b : A) (ls : List A) → Each P ls → In b ls → P b
all_in P b [] h i = absurd i
all_in P b (a ∷ ls) h (inl e) = subst P e h.0
all_in P b (a ∷ ls) h (inr i) = all_in P b ls h.1 i

pub all_each : {A : Type 0} (P : A → Type 0) (ls : List A) → ((b : A) → In b ls → P b) → Each P ls
all_each P [] f = tt
all_each P (a ∷ ls) f = (f a (inl refl), all_each P ls (λ b i. f b (inr i)))

pub all_append : {A : Type 0} (P : A → Type 0) (ls ms : List A) → Each P ls → Each P ms → Each P (ls ++ ms)
all_append P [] ms h k = k
all_append P (a ∷ ls) ms h k = (h.0, all_append P ls ms h.1 k)

pub all_front : {A : Type 0} (P : A → Type 0) (ls ms : List A) → Each P (ls ++ ms) → Each P ls
all_front P [] ms h = tt
all_front P (a ∷ ls) ms h = (h.0, all_front P ls ms h.1)

pub all_back : {A : Type 0} (P : A → Type 0) (ls ms : List A) → Each P (ls ++ ms) → Each P ms
all_back P [] ms h = h
all_back P (a ∷ ls) ms h = all_back P ls ms h.1

pub distinct_append : {K A : Type 0} (x : A → K) (ls ms : List A) → Distinct x ls → Distinct x ms → Each (λ b. Each (λ a. x a ≡ x b → ⊥) ms) ls → Distinct x (ls ++ ms)
distinct_append x [] ms d e h = e
distinct_append x (b ∷ ls) ms d e h = (all_append (λ a. x a ≡ x b → ⊥) ls ms d.0 h.0, distinct_append x ls ms d.1 e h.1)

-- a number is an entry, or differs from each
pub member : (i : ℕ) (ls : List ℕ) → In i ls ⊎ Each (λ a. a ≡ i → ⊥) ls
member i [] = inr tt
member i (a ∷ ls) = go (cases_eq a i) (member i ls)
  where
    go : (a ≡ i) ⊎ (a ≡ i → ⊥) → In i ls ⊎ Each (λ b. b ≡ i → ⊥) ls → In i (a ∷ ls) ⊎ Each (λ b. b ≡ i → ⊥) (a ∷ ls)
    go (inl e) r = inl (inl e)
    go (inr n) (inl m) = inl (inr m)
    go (inr n) (inr h) = inr (n, h)
