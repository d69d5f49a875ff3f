-- A text is cut at the first of a byte, as a blank or a comma, in one way.
use Rattle.std.proofs.Common.{◌≡◌, ℕ, ◌<◌, zero, suc, Bool, true, false, not, cond, eqb, Option, None, Some, IfSome, MatchOption, MatchResult, List, [], ◌∷◌, ◌++◌, length, get_or, sym, refl, ap, ◌∙◌, arith, length-append}
use Rattle.std.specs.Option.{ok_or}
use Rattle.std.proofs.lemmas.Map.Entries.{option_filter}
use Rattle.tokens.specs.declared.fault.Fault.TheVariants.{Shape}
use lib.Seq.{get_or-append_seam}
use Rattle.std.proofs.lemmas.Bool.Decides.{nat_tests}
use Rattle.std.specs.Str.Iter.{LacksByte}
use Rattle.tokens.specs.declared.piece.Piece.{Piece}
use Rattle.tokens.specs.Columns.{ahead}
use Rattle.tokens.specs.Words.{spaced, Plain, Cut, CutAt}

pub cut_once : (s : ℕ) (a b c d : List ℕ) → LacksByte s a → LacksByte s c → a ++ s ∷ b ≡ c ++ s ∷ d → (a ≡ c) × (b ≡ d)
cut_once s [] b [] d la lc e = (refl, cc)
cut_once s [] b (y ∷ c) d la lc e = let h : y ≡ s = cc in absurd (lc 0 (omega arith) h)
cut_once s (x ∷ a) b [] d la lc e = let h : x ≡ s = cc in absurd (la 0 (omega arith) h)
cut_once s (x ∷ a) b (y ∷ c) d la lc e =
    let h : x ≡ y = cc in
    let t : a ++ s ∷ b ≡ c ++ s ∷ d = cc in
    let p = cut_once s a b c d (λ k lt. la (suc k) (omega arith)) (λ k lt. lc (suc k) (omega arith)) t in
    ((λ i. h i ∷ p.0 i), p.1)

-- a text without the byte is not cut at it
pub no_cut : (s : ℕ) (t a b : List ℕ) → LacksByte s t → t ≡ a ++ s ∷ b → ⊥
no_cut s t a b lacks e = lacks (length a) (omega (arith, ap length e, length-append a (s ∷ b))) (ap (λ l. get_or l (length a) 0) e ∙ get_or-append_seam a s b 0)

pub lacks_cons : (s x : ℕ) (w : List ℕ) → (x ≡ s → ⊥) → LacksByte s w → LacksByte s (x ∷ w)
lacks_cons s x w other lacks zero lt e = other e
lacks_cons s x w other lacks (suc k) lt e = lacks k (omega arith) e

pub lacks_append : (s : ℕ) (a b : List ℕ) → LacksByte s a → LacksByte s b → LacksByte s (a ++ b)
lacks_append s [] b la lb = lb
lacks_append s (x ∷ a) b la lb = lacks_cons s x (a ++ b) (la 0 (omega arith)) (lacks_append s a b (λ k lt. la (suc k) (omega arith)) lb)

module _ (whole : Piece) where
  -- a word is what stands before the first blank, if that has a byte
  abbrev pub some_byte : Piece × Piece → Bool
  some_byte p = not (eqb (length p.0.text.now) 0)

  abbrev pub NoWord : Type 0
  NoWord = (a b : List ℕ) → Plain a → whole.text.now ≡ spaced a b → ⊥

  first_byte : (first rest : Piece) (empty : Bool) → eqb (length first.text.now) 0 ≡ empty → CutAt 32 whole.text.now first.text.now rest.text.now → (first.column ≡ whole.column) × (rest.column ≡ ahead (ahead whole.column (length first.text.now)) 1) → MatchResult {T = Piece × Piece} (ok_or (cond (not empty) (Some (first, rest)) None) Shape) (λ p. Cut whole p.0 p.1) (λ f. (f ≡ Shape) × NoWord)
  first_byte first rest true is cut columns =
      let none : length first.text.now ≡ 0 = grind (arith, nat_tests) in
      (refl, λ a b plain e. omega (arith, ap length (cut_once 32 first.text.now rest.text.now a b cut.lacks plain.1 (sym cut.text ∙ e)).0, plain.0))
  first_byte first rest false is cut columns =
      let some : 0 < length first.text.now = grind (arith, nat_tests) in
      record { text = cut.text; plain = (some, cut.lacks); starts = columns.0; goes = columns.1 }

  pub first_word : (found : Option (Piece × Piece)) → MatchOption found (LacksByte 32 whole.text.now) (λ p. CutAt 32 whole.text.now p.0.text.now p.1.text.now) → IfSome found (λ p. (p.0.column ≡ whole.column) × (p.1.column ≡ ahead (ahead whole.column (length p.0.text.now)) 1)) → MatchResult (ok_or (option_filter some_byte found) Shape) (λ p. Cut whole p.0 p.1) (λ f. (f ≡ Shape) × NoWord)
  first_word None lacks none = (refl, λ a b plain e. no_cut 32 whole.text.now a b lacks e)
  first_word (Some (first, rest)) cut columns = first_byte first rest (eqb (length first.text.now) 0) refl cut columns

-- the first word and the rest are what the text is written from
pub parted : {whole first rest : Piece} → Cut whole first rest → (a b : List ℕ) → Plain a → whole.text.now ≡ spaced a b → (first.text.now ≡ a) × (rest.text.now ≡ b)
parted {whole} {first} {rest} cut a b plain e = cut_once 32 first.text.now rest.text.now a b cut.plain.1 plain.1 (sym cut.text ∙ e)

-- a key before a word is a word
pub plain_key : (key w : List ℕ) → LacksByte 32 key → Plain w → Plain (key ++ w)
plain_key key w lacks plain = (omega (arith, length-append key w, plain.0), lacks_append 32 key w lacks plain.1)

-- texts that are written out
abbrev pub no_blank : List ℕ → Bool
no_blank [] = true
no_blank (x ∷ w) = cond (eqb x 32) false (no_blank w)

pub lacks_told : (w : List ℕ) → no_blank w ≡ true → LacksByte 32 w
lacks_told [] h = λ k lt e. omega arith
lacks_told (x ∷ w) h = lacks_cons 32 x w (λ e. first x (no_blank w) h e) (lacks_told w (later x (no_blank w) h))
  where
    first : (x : ℕ) (b : Bool) → cond (eqb x 32) false b ≡ true → x ≡ 32 → ⊥
    first x b h e = grind (arith, nat_tests)

    later : (x : ℕ) (b : Bool) → cond (eqb x 32) false b ≡ true → b ≡ true
    later x b h = grind (arith, nat_tests)
