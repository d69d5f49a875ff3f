-- Texts behind a verb and a kind that ask nothing.
use Rattle.std.proofs.Common.{◌≡◌, ℕ, ◌^◌, ◌<◌, List, ◌∷◌, length, get_or, Option, None, Some, codes, decimal, sym, refl, ap, ◌∙◌, arith, rules, length-append}
use Rattle.std.specs.Str.Iter.{LacksByte}
use Rattle.tokens.specs.declared.piece.Piece.{Piece}
use Rattle.spelling.specs.Lists.{written_list}
use Rattle.tokens.specs.Words.{spaced, Plain}
use Rattle.tokens.proofs.Blanks.{cut_once, no_cut}
use Rattle.tokens.proofs.Verbs.{told_word, verb_is, rest_is}
use Rattle.std.proofs.lemmas.List.{append_cancel_left}
use Rattle.requests.specs.declared.request.Question.{Question}
use Rattle.requests.specs.declared.request.Question.TheVariants.{Constants, Operate, Evaluate, Divide, Root}
use Rattle.requests.specs.Lines.{kinded, asked, NoQuestion, Asking}

-- texts that begin with different bytes differ
pub begins : {a b : List ℕ} → a ≡ b → get_or a 0 0 ≡ get_or b 0 0
begins e = ap (λ l. get_or l 0 0) e

unspaced : (w t u : List ℕ) → spaced w t ≡ spaced w u → t ≡ u
unspaced w t u e = let h = append_cancel_left w (32 ∷ t) (32 ∷ u) e in cc

-- what stands behind the same verb and kind is the same
behind : (verb kind t u : List ℕ) → spaced verb (spaced kind t) ≡ spaced verb (spaced kind u) → t ≡ u
behind verb kind t u e = unspaced kind t u (unspaced verb (spaced kind t) (spaced kind u) e)

module _ {F : Type 0} (form : F → List ℕ) where
  -- a text that is no two elements
  pub no_operate : (t : Piece) → ((a b : F) → t.text.now ≡ spaced (form a) (form b) → ⊥) → NoQuestion form (codes "op") (Some t)
  no_operate t none = search (rules, append_cancel_left)

  -- a text that is no list and element
  pub no_evaluate : (t : Piece) → ((p : List F) (x : F) → t.text.now ≡ spaced (written_list form p) (form x) → ⊥) → NoQuestion form (codes "eval") (Some t)
  no_evaluate t none = search (rules, append_cancel_left)

  -- a text that is no two lists
  pub no_divide : (t : Piece) → ((p d : List F) → t.text.now ≡ spaced (written_list form p) (written_list form d) → ⊥) → NoQuestion form (codes "div") (Some t)
  no_divide t none = search (rules, append_cancel_left)

  -- a text that is no list and number
  pub no_root : (t : Piece) → ((p : List F) (n : ℕ) → n < 2 ^ 64 → t.text.now ≡ spaced (written_list form p) (decimal n) → ⊥) → NoQuestion form (codes "root") (Some t)
  no_root t none = search (rules, append_cancel_left)

  -- a verb of no question with what follows the kind
  abbrev pub Other : List ℕ → Option Piece → Type 0
  Other verb None = verb ≡ codes "const" → ⊥
  Other verb (Some rest) = (verb ≡ codes "op" → ⊥) × (verb ≡ codes "eval" → ⊥) × (verb ≡ codes "div" → ⊥) × (verb ≡ codes "root" → ⊥)

  longer : (kind t : List ℕ) → kind ≡ spaced kind t → ⊥
  longer kind t e = omega (arith, ap length e, length-append kind (32 ∷ t))

  pub no_verb : (verb : List ℕ) (rest : Option Piece) → Plain verb → Other verb rest → NoQuestion form verb rest
  no_verb verb None plain other kind Constants fits e = other (verb_is verb _ plain (codes "const") _ refl e)
  no_verb verb None plain other kind (Operate a b) fits e = longer kind _ (rest_is verb kind plain (codes "op") _ refl e)
  no_verb verb None plain other kind (Evaluate p x) fits e = longer kind _ (rest_is verb kind plain (codes "eval") _ refl e)
  no_verb verb None plain other kind (Divide buffer by) fits e = longer kind _ (rest_is verb kind plain (codes "div") _ refl e)
  no_verb verb None plain other kind (Root p n) fits e = longer kind _ (rest_is verb kind plain (codes "root") _ refl e)
  no_verb verb (Some rest) plain other kind Constants fits e = longer kind rest.text.now (sym (rest_is verb (spaced kind rest.text.now) plain (codes "const") kind refl e))
  no_verb verb (Some rest) plain other kind (Operate a b) fits e = other.0 (verb_is verb _ plain (codes "op") _ refl e)
  no_verb verb (Some rest) plain other kind (Evaluate p x) fits e = other.1 (verb_is verb _ plain (codes "eval") _ refl e)
  no_verb verb (Some rest) plain other kind (Divide buffer by) fits e = other.2 (verb_is verb _ plain (codes "div") _ refl e)
  no_verb verb (Some rest) plain other kind (Root p n) fits e = other.3 (verb_is verb _ plain (codes "root") _ refl e)

  -- a question is a word and more
  pub asked_words : (kind : List ℕ) (q : Question F) → (v : List ℕ) × (u : List ℕ) × Plain v × (asked form kind q ≡ spaced v u)
  asked_words kind Constants = (codes "const", kind, told_word (codes "const") (omega arith) refl, refl)
  asked_words kind (Operate a b) = (codes "op", _, told_word (codes "op") (omega arith) refl, refl)
  asked_words kind (Evaluate p x) = (codes "eval", _, told_word (codes "eval") (omega arith) refl, refl)
  asked_words kind (Divide buffer by) = (codes "div", _, told_word (codes "div") (omega arith) refl, refl)
  asked_words kind (Root p n) = (codes "root", _, told_word (codes "root") (omega arith) refl, refl)

  -- behind a verb other than `const`, a question has its kind and more
  pub kind_next : (verb t kind : List ℕ) → Plain verb → (verb ≡ codes "const" → ⊥) → (q : Question F) → spaced verb t ≡ asked form kind q → (u : List ℕ) × (t ≡ spaced kind u)
  kind_next verb t kind plain other Constants e = absurd (other (verb_is verb t plain (codes "const") _ refl e))
  kind_next verb t kind plain other (Operate a b) e = (_, (rest_is verb t plain (codes "op") _ refl e))
  kind_next verb t kind plain other (Evaluate p x) e = (_, (rest_is verb t plain (codes "eval") _ refl e))
  kind_next verb t kind plain other (Divide buffer by) e = (_, (rest_is verb t plain (codes "div") _ refl e))
  kind_next verb t kind plain other (Root p n) e = (_, (rest_is verb t plain (codes "root") _ refl e))

  -- the kind is the one that is written
  pub same_kind : (verb at kind : List ℕ) (rest : Option Piece) → Asking verb at rest → LacksByte 32 kind → (q : Question F) → spaced verb (kinded at rest) ≡ asked form kind q → at ≡ kind
  same_kind verb at kind None (plain, is) lacks Constants e = (rest_is verb at plain (codes "const") kind refl e)
  same_kind verb at kind None (plain, is) lacks (Operate a b) e = absurd (omega (arith, begins (sym is ∙ verb_is verb _ plain (codes "op") _ refl e)))
  same_kind verb at kind None (plain, is) lacks (Evaluate p x) e = absurd (omega (arith, begins (sym is ∙ verb_is verb _ plain (codes "eval") _ refl e)))
  same_kind verb at kind None (plain, is) lacks (Divide buffer by) e = absurd (omega (arith, begins (sym is ∙ verb_is verb _ plain (codes "div") _ refl e)))
  same_kind verb at kind None (plain, is) lacks (Root p n) e = absurd (omega (arith, begins (sym is ∙ verb_is verb _ plain (codes "root") _ refl e)))
  same_kind verb at kind (Some rest) (plain, other, one) lacks Constants e = absurd (no_cut 32 kind at rest.text.now lacks (sym (rest_is verb _ plain (codes "const") kind refl e)))
  same_kind verb at kind (Some rest) (plain, other, one) lacks (Operate a b) e = (cut_once 32 at rest.text.now kind _ one.1 lacks (rest_is verb _ plain (codes "op") _ refl e)).0
  same_kind verb at kind (Some rest) (plain, other, one) lacks (Evaluate p x) e = (cut_once 32 at rest.text.now kind _ one.1 lacks (rest_is verb _ plain (codes "eval") _ refl e)).0
  same_kind verb at kind (Some rest) (plain, other, one) lacks (Divide buffer by) e = (cut_once 32 at rest.text.now kind _ one.1 lacks (rest_is verb _ plain (codes "div") _ refl e)).0
  same_kind verb at kind (Some rest) (plain, other, one) lacks (Root p n) e = (cut_once 32 at rest.text.now kind _ one.1 lacks (rest_is verb _ plain (codes "root") _ refl e)).0

  -- no question begins with `check`
  pub not_check : (t kind : List ℕ) (q : Question F) → spaced (codes "check") t ≡ asked form kind q → ⊥
  not_check t kind q e = search rules
