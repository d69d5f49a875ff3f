use Rattle.std.proofs.Common.{[], ◌∷◌, ap, ◌∙◌, arith, rules}
use Rattle.std.proofs.lemmas.Bool.Decides.{Decides-eqb}
use Rattle.std.proofs.lemmas.Slice.Eq.{strip_prefix_is}
use Rattle.lineup.specs.Plans.{dividers_of}
use Rattle.lineup.proofs.Parts.{cases_both, listed_table, listed_serial, listed_tables, listed_holder, listed_pair}
use Rattle.lineup.proofs.Texts.{no_bytes, unlike, stripped, no_text, no_first, holder_unopened, holder_empty, holder_unclosed, pair_empty, pair_unsplit, pair_half, pair_unclosed}
use Rattle.lineup.proofs.reading.+read_part.Goals as goal

pub returns-in_err-first : goal.returns-in_err-first
returns-in_err-first t c = rw c.from_residual.ensures (no_text c.args.depth c.args.text.now (no_bytes _ (omega (arith, c.in_err-first.ensures.cases))))

pub returns-in_err-inner-in-104 : goal.returns-in_err-inner-in-104
returns-in_err-inner-in-104 t c =
    let e = c.in_ok-first.ensures.cases.0 ∙ ap (λ b. b ∷ c.in_ok-first.rest.now) c.in-104.is in
    rw c.from_residual-in_err-inner-in-104.ensures (holder_unopened c.args.depth c.args.text.now _ e (unlike _ 91 c.in_err-inner-in-104.ensures.cases))

pub returns-in_err-rest-in-104 : goal.returns-in_err-rest-in-104
returns-in_err-rest-in-104 t c =
    let e = c.in_ok-first.ensures.cases.0 ∙ ap (λ b. b ∷ c.in_ok-first.rest.now) c.in-104.is in
    rw c.from_residual-in_err-rest-in-104.ensures (holder_empty c.args.depth c.args.text.now _ e _ (stripped _ 91 c.in_ok-inner-in-104.inner c.in_ok-inner-in-104.ensures.cases) c.in_err-rest-in-104.ensures)

pub returns-in_err-rest-in-40 : goal.returns-in_err-rest-in-40
returns-in_err-rest-in-40 t c =
    let e = c.in_ok-first.ensures.cases.0 ∙ ap (λ b. b ∷ c.in_ok-first.rest.now) c.in-40.is in
    rw c.from_residual-in_err-rest-in-40.ensures (pair_empty c.args.depth c.args.text.now _ e c.in_err-rest-in-40.ensures)

pub returns-in_err-rest-in-40-2 : goal.returns-in_err-rest-in-40-2
returns-in_err-rest-in-40-2 t c =
    let e = c.in_ok-first.ensures.cases.0 ∙ ap (λ b. b ∷ c.in_ok-first.rest.now) c.in-40.is in
    let left = c.in_ok-rest-in-40.ensures in
    rw c.from_residual-in_err-rest-in-40-2.ensures (pair_unsplit c.args.depth c.args.text.now _ e left.plan _ left.begins (unlike _ 44 c.in_err-rest-in-40-2.ensures.cases))

pub returns-in_err-rest-in-40-3 : goal.returns-in_err-rest-in-40-3
returns-in_err-rest-in-40-3 t c =
    let e = c.in_ok-first.ensures.cases.0 ∙ ap (λ b. b ∷ c.in_ok-first.rest.now) c.in-40.is in
    let left = c.in_ok-rest-in-40.ensures in
    rw c.from_residual-in_err-rest-in-40-3.ensures
    (pair_half c.args.depth c.args.text.now _ e left.plan _ left.begins _ (stripped _ 44 c.in_ok-rest-in-40-2.rest c.in_ok-rest-in-40-2.ensures.cases) c.in_err-rest-in-40-3.ensures)

pub returns-in-84 : goal.returns-in-84
unfolding dividers_of
returns-in-84 t c =
    listed_table c.args.depth c.args.text.now _ c.args.kinds.now c.push.new.self
    (c.in_ok-first.ensures.cases.0 ∙ ap (λ b. b ∷ c.in_ok-first.rest.now) c.in-84.is) c.push.ensures

pub returns-in-66 : goal.returns-in-66
unfolding dividers_of
returns-in-66 t c =
    listed_serial c.args.depth c.args.text.now _ c.args.kinds.now c.push-in-66.new.self
    (c.in_ok-first.ensures.cases.0 ∙ ap (λ b. b ∷ c.in_ok-first.rest.now) c.in-66.is) c.push-in-66.ensures

pub returns-in-50-to-56 : goal.returns-in-50-to-56
unfolding dividers_of
returns-in-50-to-56 t c =
    listed_tables c.args.depth c.args.text.now _ c.args.kinds.now c.push_tables.new.self c.in_ok-first.first.now
    c.in_ok-first.ensures.cases.0 (search rules) (search rules) c.push_tables.ensures

pub returns-in_ok-rest-in-104 : goal.returns-in_ok-rest-in-104
returns-in_ok-rest-in-104 t c =
    let e = c.in_ok-first.ensures.cases.0 ∙ ap (λ b. b ∷ c.in_ok-first.rest.now) c.in-104.is in
    let inner = stripped _ 91 c.in_ok-inner-in-104.inner c.in_ok-inner-in-104.ensures.cases in
    let read = c.in_ok-rest-in-104.ensures in
    cases_both c.strip_prefix-in-104.result (strip_prefix_is Decides-eqb _ (93 ∷ []) _ c.strip_prefix-in-104.ensures.cases)
    (holder_unclosed c.args.depth c.args.text.now _ e _ inner read.plan _ read.begins)
    (λ rest closed. listed_holder c.args.depth c.args.text.now rest.now c.args.kinds.now c.read_part.new.kinds _ _ _ c.if-depth-gt0.true e inner read closed)

pub returns-in_ok-rest-in-40-3 : goal.returns-in_ok-rest-in-40-3
returns-in_ok-rest-in-40-3 t c =
    let e = c.in_ok-first.ensures.cases.0 ∙ ap (λ b. b ∷ c.in_ok-first.rest.now) c.in-40.is in
    let left = c.in_ok-rest-in-40.ensures in
    let comma = stripped _ 44 c.in_ok-rest-in-40-2.rest c.in_ok-rest-in-40-2.ensures.cases in
    let right = c.in_ok-rest-in-40-3.ensures in
    cases_both c.strip_prefix-in-40-2.result (strip_prefix_is Decides-eqb _ (41 ∷ []) _ c.strip_prefix-in-40-2.ensures.cases)
    (pair_unclosed c.args.depth c.args.text.now _ e left.plan _ left.begins _ comma right.plan _ right.begins)
    (λ rest closed. listed_pair c.args.depth c.args.text.now rest.now c.args.kinds.now c.read_part-in-40-2.new.kinds _ _ _ _ c.read_part-in-40.new.kinds
    c.if-depth-gt0-2.true e left comma right closed)

pub returns-in_default : goal.returns-in_default
returns-in_default t c =
    no_first c.args.depth c.args.text.now c.in_ok-first.first.now _ c.in_ok-first.ensures.cases.0 (λ e. search rules) (λ e. search rules) (λ low high. search rules)
    (λ e d. search rules) (λ e d. search rules)
