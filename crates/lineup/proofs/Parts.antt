-- Dividers that are listed as a text is read.
use Rattle.std.proofs.Common.{◌≡◌, ℕ, ◌-◌, ◌<◌, ◌≤◌, List, ◌∷◌, ◌++◌, Some, None, Option, ap, ◌∙◌, MatchOption}
use Rattle.lineup.specs.declared.kinds.Kinds.{Kinds}
use Rattle.lineup.specs.Kinds.{first_eight, listed, Listed}
use Rattle.lineup.specs.Plans.{table, serial, tables, pair, holder, dividers_of}
use Rattle.lineup.proofs.Rows.{eight_more}
use Rattle.lineup.proofs.Texts.{table_begins, serial_begins, tables_begin, holder_begins, pair_begins}

-- What holds in both cases of an answer, from what held in both.
pub cases_both : {T : Type 0} {N N' : Type 0} {P P' : T → Type 0} (r : Option T) → MatchOption r N P → (N → N') → ((x : T) → P x → P' x) → MatchOption r N' P'
cases_both None h none some = none h
cases_both (Some x) h none some = some x h

module _ (n : ℕ) (text rest : List ℕ) (before after : Kinds) where
  pub listed_table : text ≡ 84 ∷ rest → listed after ≡ first_eight (listed before ++ dividers_of table) → Listed n text rest before after
  listed_table e k = record { plan = table; begins = table_begins n text rest e; kinds = k }

  pub listed_serial : text ≡ 66 ∷ rest → listed after ≡ first_eight (listed before ++ dividers_of serial) → Listed n text rest before after
  listed_serial e k = record { plan = serial; begins = serial_begins n text rest e; kinds = k }

  pub listed_tables : (first : ℕ) → text ≡ first ∷ rest → 50 ≤ first → first ≤ 56 → listed after ≡ first_eight (listed before ++ dividers_of (tables (first - 48))) → Listed n text rest before after
  listed_tables first e low high k = record { plan = tables (first - 48); begins = tables_begin n text first rest e low high; kinds = k }

  pub listed_holder : (behind inner last : List ℕ) → 0 < n → text ≡ 104 ∷ behind → behind ≡ 91 ∷ inner → Listed (n - 1) inner last before after → last ≡ 93 ∷ rest → Listed n text rest before after
  unfolding dividers_of
  listed_holder behind inner last deep e opened l closed = record {
    plan = holder l.plan;
    begins = holder_begins n text behind e inner opened deep l.plan last rest l.begins closed;
    kinds = l.kinds;
  }

  pub listed_pair : (behind more second last : List ℕ) (between : Kinds) → 0 < n → text ≡ 40 ∷ behind → Listed (n - 1) behind more before between → more ≡ 44 ∷ second
      → Listed (n - 1) second last between after → last ≡ 41 ∷ rest → Listed n text rest before after
  unfolding dividers_of
  listed_pair behind more second last between deep e l comma r closed = record {
    plan = pair l.plan r.plan;
    begins = pair_begins n text behind e l.plan more l.begins second comma deep r.plan last rest r.begins closed;
    kinds =
        r.kinds ∙ ap (λ k. first_eight (k ++ dividers_of r.plan)) l.kinds
        ∙ eight_more (listed before) (dividers_of l.plan) (dividers_of r.plan);
  }
