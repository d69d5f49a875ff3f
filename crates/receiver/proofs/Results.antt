-- What a result was before its fault was given more.
use Rattle.std.proofs.Common.{◌≡◌, Ok, Err, Result, MatchResult, IsErrAnd, refl}

module _ {T E D : Type 0} (P : E → D → Type 0) where
  -- A success is the same.
  pub ok_kept : (r : Result T E) (m : Result T D) (x : T) → MatchResult r (λ x. m ≡ Ok x) (λ e. IsErrAnd m (P e)) → m ≡ Ok x → r ≡ Ok x
  ok_kept (Ok y) m x told is = cc
  ok_kept (Err e) (Ok y) x told is = absurd told
  ok_kept (Err e) (Err d) x told is = cc

  -- A fault is made of one.
  pub err_kept : (r : Result T E) (m : Result T D) (d : D) → MatchResult r (λ x. m ≡ Ok x) (λ e. IsErrAnd m (P e)) → m ≡ Err d → (e : E) × (r ≡ Err e) × P e d
  err_kept (Ok y) m d told is = cc
  err_kept (Err e) (Ok y) d told is = absurd told
  err_kept (Err e) (Err f) d told is = let same : f ≡ d = cc in (e, refl, rw (← same) told)
