-- A value of a struct takes at most the room of its fields, and 16 bytes for each of them and at its end.
use Rattle.std.proofs.Common.{ℕ, zero, suc, ◌+◌, ◌*◌, ◌^◌, ◌<◌, ◌≤◌, sym, subst, arith}
use prog.Memory.{size, align, aligns, up, end_of}
use prog.Align.{align_w, aligns_w, align-bytes, aligns-bytes}
use mir.Syntax.{Ty, Tys, tnil, tcons, ty_struct, Width, w8, w16, w32, w64, w128}
use mir.Val.{bytes}
use denote.RattleType.{RattleType}
use denote.Param.{copied, layout}
use Rattle.correction.specs.contracts.recurrence.Shortest
use Rattle.correction.specs.contracts.repair.Locator
use Rattle.correction.specs.contracts.repair.Search
use Rattle.correction.specs.contracts.syndromes.Gamma

bytes_most : (w : Width) → bytes w ≤ 16
bytes_most w8 = omega arith
bytes_most w16 = omega arith
bytes_most w32 = omega arith
bytes_most w64 = omega arith
bytes_most w128 = omega arith

up_most : (k e : ℕ) → k ≤ 16 → up k e ≤ e + 16
up_most zero e p = omega arith
up_most (suc k) e p = omega arith

-- the room of the fields
abbrev fields : Tys → ℕ
fields tnil = 0
fields (tcons τ τs) = size τ + 16 + fields τs

end_most : (e : ℕ) (τs : Tys) → end_of e τs ≤ e + fields τs
end_most e tnil = omega arith
end_most e (tcons τ τs) =
    let here = up_most (align τ) e (subst (λ (k : ℕ). k ≤ 16) (sym (align-bytes τ)) (bytes_most (align_w τ))) in
    let rest = end_most (up (align τ) e + size τ) τs in
    omega (arith, here, rest)

-- at most the room of a type
abbrev top : Ty → ℕ
top (ty_struct ν τs) = fields τs + 16
top τ = size τ

size_most : (τ : Ty) → size τ ≤ top τ
size_most (ty_struct ν τs) =
    let whole = up_most (aligns τs) (end_of 0 τs) (subst (λ (k : ℕ). k ≤ 16) (sym (aligns-bytes τs)) (bytes_most (aligns_w τs))) in
    let end = end_most 0 τs in
    omega (arith, whole, end)
size_most τ = omega arith

-- The structs of this crate fit in memory where 255 elements do.
locator_room : (f l : ℕ) → 255 * f < 2 ^ 63 → l ≤ 33 * f + 16 + (8 + 16 + 0) + 16 → l < 2 ^ 63
locator_room f l fits most = omega arith

shortest_room : (f s : ℕ) → 255 * f < 2 ^ 63 → s ≤ 32 * f + 16 + (8 + 16 + (33 * f + 16 + (8 + 16 + (33 * f + 16 + (f + 16 + 0))))) + 16 → s < 2 ^ 63
shortest_room f s fits most = omega arith

search_room : (f l g s : ℕ) → 255 * f < 2 ^ 63 → l ≤ 33 * f + 16 + (8 + 16 + 0) + 16 → g ≤ f + 16 + (f + 16 + 0) + 16
    → s ≤ l + 16 + (32 * f + 16 + (g + 16 + (33 * f + 16 + (8 + 16 + (f + 16 + (f + 16 + (33 * f + 16 + (32 * f + 16 + 0)))))))) + 16 → s < 2 ^ 63
search_room f l g s fits most_l most_g most = omega arith

module _ (R : RattleType) (o e : _) (fits : 255 * size (layout (copied 0 R)) < 2 ^ 63) where
  pub locator_fits : size (layout (Locator.the_row (copied 0 R) o e)) < 2 ^ 63
  locator_fits = locator_room (size (layout (copied 0 R))) (size (layout (Locator.the_row (copied 0 R) o e))) fits (size_most (layout (Locator.the_row (copied 0 R) o e)))

  pub shortest_fits : size (layout (Shortest.the_row (copied 0 R) o e)) < 2 ^ 63
  shortest_fits = shortest_room (size (layout (copied 0 R))) (size (layout (Shortest.the_row (copied 0 R) o e))) fits (size_most (layout (Shortest.the_row (copied 0 R) o e)))

  pub search_fits : size (layout (Search.the_row (copied 0 R) o e)) < 2 ^ 63
  search_fits =
      search_room (size (layout (copied 0 R))) (size (layout (Locator.the_row (copied 0 R) o e))) (size (layout (Gamma.the_row (copied 0 R) o e))) (size (layout (Search.the_row (copied 0 R) o e)))
      fits (size_most (layout (Locator.the_row (copied 0 R) o e))) (size_most (layout (Gamma.the_row (copied 0 R) o e))) (size_most (layout (Search.the_row (copied 0 R) o e)))
