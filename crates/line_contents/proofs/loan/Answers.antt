use Rattle.std.proofs.Common.{sym, ◌∙◌}
use native.Mathlib.Omega.{arith}
use Rattle.line_forms.specs.Contents.{loan_form, origin_form}
use Rattle.line_forms.specs.Readings.{loan_with, loan_held}
use Rattle.line_forms.specs.declared.Content.TheVariants.{Loan, NoForm}
use Rattle.line_forms.proofs.FormLaws.{later}
use Rattle.line_forms.proofs.ContentLaws.{proper-loan}
use Rattle.line_forms.proofs.Readers.{Reading, Reached, begun, over, taken, holds, holds_not, stopped, room}
use Rattle.line_contents.proofs.loan.Goals as goal

pub returns-then-not-stands : goal.returns-then-not-stands
unfolding loan_held
returns-then-not-stands c =
    let reached1 : Reached loan_form (later 1 loan_form) =
    over (begun loan_form c.args.line.now proper-loan) c.requires c.long_at-balance.ensures in
    stopped reached1 _ NoForm (sym c.stands.ensures ∙ c.if-not-stands.true)

pub overflow_add-balance : goal.overflow_add-balance
overflow_add-balance c =
    let reached1 : Reached loan_form (later 1 loan_form) =
    over (begun loan_form c.args.line.now proper-loan) c.requires c.long_at-balance.ensures in
    let k = room reached1 (sym c.stands.ensures ∙ c.if-not-stands.false) in
    record { fits = omega (arith, k, c.well_formed.0) }

pub returns-then-not-stands-2 : goal.returns-then-not-stands-2
unfolding loan_held
returns-then-not-stands-2 c =
    let reached1 : Reached loan_form (later 1 loan_form) =
    over (begun loan_form c.args.line.now proper-loan) c.requires c.long_at-balance.ensures in
    let reached2 : Reached loan_form (later 2 loan_form) =
    over reached1 (sym c.stands.ensures ∙ c.if-not-stands.false) c.long_at-value.ensures in
    stopped reached2 _ NoForm (sym c.stands-2.ensures ∙ c.if-not-stands-2.true)

pub overflow_add-value : goal.overflow_add-value
overflow_add-value c =
    let reached1 : Reached loan_form (later 1 loan_form) =
    over (begun loan_form c.args.line.now proper-loan) c.requires c.long_at-balance.ensures in
    let reached2 : Reached loan_form (later 2 loan_form) =
    over reached1 (sym c.stands.ensures ∙ c.if-not-stands.false) c.long_at-value.ensures in
    let k = room reached2 (sym c.stands-2.ensures ∙ c.if-not-stands-2.false) in
    record { fits = omega (arith, k, c.well_formed.0) }

pub returns-then-not-stands-3 : goal.returns-then-not-stands-3
unfolding loan_held
returns-then-not-stands-3 c =
    let reached1 : Reached loan_form (later 1 loan_form) =
    over (begun loan_form c.args.line.now proper-loan) c.requires c.long_at-balance.ensures in
    let reached2 : Reached loan_form (later 2 loan_form) =
    over reached1 (sym c.stands.ensures ∙ c.if-not-stands.false) c.long_at-value.ensures in
    let reached3 : Reached loan_form (later 3 loan_form) =
    over reached2 (sym c.stands-2.ensures ∙ c.if-not-stands-2.false) c.short_at-amortization.ensures in
    stopped reached3 _ NoForm (sym c.stands-3.ensures ∙ c.if-not-stands-3.true)

pub overflow_add-amortization : goal.overflow_add-amortization
overflow_add-amortization c =
    let reached1 : Reached loan_form (later 1 loan_form) =
    over (begun loan_form c.args.line.now proper-loan) c.requires c.long_at-balance.ensures in
    let reached2 : Reached loan_form (later 2 loan_form) =
    over reached1 (sym c.stands.ensures ∙ c.if-not-stands.false) c.long_at-value.ensures in
    let reached3 : Reached loan_form (later 3 loan_form) =
    over reached2 (sym c.stands-2.ensures ∙ c.if-not-stands-2.false) c.short_at-amortization.ensures in
    let k = room reached3 (sym c.stands-3.ensures ∙ c.if-not-stands-3.false) in
    record { fits = omega (arith, k, c.well_formed.0) }

pub returns-then-not-stands-4 : goal.returns-then-not-stands-4
unfolding loan_held
returns-then-not-stands-4 c =
    let reached1 : Reached loan_form (later 1 loan_form) =
    over (begun loan_form c.args.line.now proper-loan) c.requires c.long_at-balance.ensures in
    let reached2 : Reached loan_form (later 2 loan_form) =
    over reached1 (sym c.stands.ensures ∙ c.if-not-stands.false) c.long_at-value.ensures in
    let reached3 : Reached loan_form (later 3 loan_form) =
    over reached2 (sym c.stands-2.ensures ∙ c.if-not-stands-2.false) c.short_at-amortization.ensures in
    let reached4 : Reached loan_form (later 4 loan_form) =
    over reached3 (sym c.stands-3.ensures ∙ c.if-not-stands-3.false) c.short_at-term.ensures in
    stopped reached4 _ NoForm (sym c.stands-4.ensures ∙ c.if-not-stands-4.true)

pub overflow_add-term : goal.overflow_add-term
overflow_add-term c =
    let reached1 : Reached loan_form (later 1 loan_form) =
    over (begun loan_form c.args.line.now proper-loan) c.requires c.long_at-balance.ensures in
    let reached2 : Reached loan_form (later 2 loan_form) =
    over reached1 (sym c.stands.ensures ∙ c.if-not-stands.false) c.long_at-value.ensures in
    let reached3 : Reached loan_form (later 3 loan_form) =
    over reached2 (sym c.stands-2.ensures ∙ c.if-not-stands-2.false) c.short_at-amortization.ensures in
    let reached4 : Reached loan_form (later 4 loan_form) =
    over reached3 (sym c.stands-3.ensures ∙ c.if-not-stands-3.false) c.short_at-term.ensures in
    let k = room reached4 (sym c.stands-4.ensures ∙ c.if-not-stands-4.false) in
    record { fits = omega (arith, k, c.well_formed.0) }

pub returns-then-not-stands-5 : goal.returns-then-not-stands-5
unfolding loan_held
returns-then-not-stands-5 c =
    let reached1 : Reached loan_form (later 1 loan_form) =
    over (begun loan_form c.args.line.now proper-loan) c.requires c.long_at-balance.ensures in
    let reached2 : Reached loan_form (later 2 loan_form) =
    over reached1 (sym c.stands.ensures ∙ c.if-not-stands.false) c.long_at-value.ensures in
    let reached3 : Reached loan_form (later 3 loan_form) =
    over reached2 (sym c.stands-2.ensures ∙ c.if-not-stands-2.false) c.short_at-amortization.ensures in
    let reached4 : Reached loan_form (later 4 loan_form) =
    over reached3 (sym c.stands-3.ensures ∙ c.if-not-stands-3.false) c.short_at-term.ensures in
    let reached5 : Reached loan_form (later 5 loan_form) =
    over reached4 (sym c.stands-4.ensures ∙ c.if-not-stands-4.false) c.score_at-score.ensures in
    stopped reached5 _ NoForm (sym c.stands-5.ensures ∙ c.if-not-stands-5.true)

pub overflow_add-score : goal.overflow_add-score
overflow_add-score c =
    let reached1 : Reached loan_form (later 1 loan_form) =
    over (begun loan_form c.args.line.now proper-loan) c.requires c.long_at-balance.ensures in
    let reached2 : Reached loan_form (later 2 loan_form) =
    over reached1 (sym c.stands.ensures ∙ c.if-not-stands.false) c.long_at-value.ensures in
    let reached3 : Reached loan_form (later 3 loan_form) =
    over reached2 (sym c.stands-2.ensures ∙ c.if-not-stands-2.false) c.short_at-amortization.ensures in
    let reached4 : Reached loan_form (later 4 loan_form) =
    over reached3 (sym c.stands-3.ensures ∙ c.if-not-stands-3.false) c.short_at-term.ensures in
    let reached5 : Reached loan_form (later 5 loan_form) =
    over reached4 (sym c.stands-4.ensures ∙ c.if-not-stands-4.false) c.score_at-score.ensures in
    let k = room reached5 (sym c.stands-5.ensures ∙ c.if-not-stands-5.false) in
    record { fits = omega (arith, k, c.well_formed.0) }

pub returns-then-origin-line : goal.returns-then-origin-line
unfolding loan_held
returns-then-origin-line c =
    let reached1 : Reached loan_form (later 1 loan_form) =
    over (begun loan_form c.args.line.now proper-loan) c.requires c.long_at-balance.ensures in
    let reached2 : Reached loan_form (later 2 loan_form) =
    over reached1 (sym c.stands.ensures ∙ c.if-not-stands.false) c.long_at-value.ensures in
    let reached3 : Reached loan_form (later 3 loan_form) =
    over reached2 (sym c.stands-2.ensures ∙ c.if-not-stands-2.false) c.short_at-amortization.ensures in
    let reached4 : Reached loan_form (later 4 loan_form) =
    over reached3 (sym c.stands-3.ensures ∙ c.if-not-stands-3.false) c.short_at-term.ensures in
    let reached5 : Reached loan_form (later 5 loan_form) =
    over reached4 (sym c.stands-4.ensures ∙ c.if-not-stands-4.false) c.score_at-score.ensures in
    let reached6 : Reached loan_form origin_form =
    over reached5 (sym c.stands-5.ensures ∙ c.if-not-stands-5.false) c.short_at-supplement.ensures in
    let found : Reading reached6.line loan_form 0 =
    reached6.whole (taken c.origin_at-origin.ensures) in
    holds found (λ v. Loan (loan_with v)) NoForm c.if-origin-line.true

pub returns : goal.returns
unfolding loan_held
returns c =
    let reached1 : Reached loan_form (later 1 loan_form) =
    over (begun loan_form c.args.line.now proper-loan) c.requires c.long_at-balance.ensures in
    let reached2 : Reached loan_form (later 2 loan_form) =
    over reached1 (sym c.stands.ensures ∙ c.if-not-stands.false) c.long_at-value.ensures in
    let reached3 : Reached loan_form (later 3 loan_form) =
    over reached2 (sym c.stands-2.ensures ∙ c.if-not-stands-2.false) c.short_at-amortization.ensures in
    let reached4 : Reached loan_form (later 4 loan_form) =
    over reached3 (sym c.stands-3.ensures ∙ c.if-not-stands-3.false) c.short_at-term.ensures in
    let reached5 : Reached loan_form (later 5 loan_form) =
    over reached4 (sym c.stands-4.ensures ∙ c.if-not-stands-4.false) c.score_at-score.ensures in
    let reached6 : Reached loan_form origin_form =
    over reached5 (sym c.stands-5.ensures ∙ c.if-not-stands-5.false) c.short_at-supplement.ensures in
    let found : Reading reached6.line loan_form 0 =
    reached6.whole (taken c.origin_at-origin.ensures) in
    holds_not found _ NoForm c.if-origin-line.false
