use native.Mathlib.Omega.{arith}
use mathlib.Core.Path.{sym, ◌∙◌}
use borrow.Author.Tests.{ne_eqb}
use Rattle.line_forms.specs.Readings.{amount_held, content_of}
use Rattle.line_forms.proofs.ContentLaws.{no_loan}
use Rattle.line_contents.proofs.other.Goals as goal

-- `other` meets its contract.

pub returns-in-0 : goal.returns-in-0
unfolding content_of
returns-in-0 c =
    rw (sym c.word_at-name.ensures.0 ∙ c.in-0.is)
    (no_loan c.args.line.now c.requires)

pub returns-in-1 : goal.returns-in-1
unfolding content_of
returns-in-1 c =
    rw (sym c.word_at-name.ensures.0 ∙ c.in-1.is)
    c.policy.ensures

pub returns-in-2 : goal.returns-in-2
unfolding content_of
returns-in-2 c =
    rw (sym c.word_at-name.ensures.0 ∙ c.in-2.is)
    c.derivative.ensures

pub returns-in-3 : goal.returns-in-3
unfolding content_of
returns-in-3 c =
    rw (sym c.word_at-name.ensures.0 ∙ c.in-3.is)
    c.asset.ensures

pub returns-in-4 : goal.returns-in-4
unfolding content_of
returns-in-4 c =
    rw (sym c.word_at-name.ensures.0 ∙ c.in-4.is)
    c.header.ensures

pub returns-in-5 : goal.returns-in-5
unfolding content_of amount_held
returns-in-5 c =
    rw (sym c.word_at-name.ensures.0 ∙ c.in-5.is)
    c.plain.ensures

pub returns-in-6 : goal.returns-in-6
unfolding content_of amount_held
returns-in-6 c =
    rw (sym c.word_at-name.ensures.0 ∙ c.in-6.is)
    c.plain-in-6.ensures

pub returns-in-7 : goal.returns-in-7
unfolding content_of amount_held
returns-in-7 c =
    rw (sym c.word_at-name.ensures.0 ∙ c.in-7.is)
    c.plain-in-7.ensures

pub returns-in-8 : goal.returns-in-8
unfolding content_of amount_held
returns-in-8 c =
    rw (sym c.word_at-name.ensures.0 ∙ c.in-8.is)
    c.signed.ensures

pub returns-in-9 : goal.returns-in-9
unfolding content_of amount_held
returns-in-9 c =
    rw (sym c.word_at-name.ensures.0 ∙ c.in-9.is)
    c.signed-in-9.ensures

pub returns-in-10 : goal.returns-in-10
unfolding content_of amount_held
returns-in-10 c =
    rw (sym c.word_at-name.ensures.0 ∙ c.in-10.is)
    c.plain-in-10.ensures

pub returns-in-11 : goal.returns-in-11
unfolding content_of amount_held
returns-in-11 c =
    rw (sym c.word_at-name.ensures.0 ∙ c.in-11.is)
    c.plain-in-11.ensures

pub returns-in-12 : goal.returns-in-12
unfolding content_of
returns-in-12 c =
    rw (sym c.word_at-name.ensures.0 ∙ c.in-12.is)
    c.index.ensures

pub returns-in-13 : goal.returns-in-13
unfolding content_of
returns-in-13 c =
    rw (sym c.word_at-name.ensures.0 ∙ c.in-13.is)
    c.mark.ensures

pub returns-in-14 : goal.returns-in-14
unfolding content_of
returns-in-14 c =
    rw (sym c.word_at-name.ensures.0 ∙ c.in-14.is)
    c.mark-in-14.ensures

pub returns-in_default : goal.returns-in_default
unfolding content_of amount_held
returns-in_default c =
    let p = c.word_at-name.result.value in
    rw (
      ← c.word_at-name.ensures.0,
      ne_eqb p 0 (λ e. omega (arith, e)),
      ne_eqb p 1 (λ e. omega (arith, e)),
      ne_eqb p 2 (λ e. omega (arith, e)),
      ne_eqb p 3 (λ e. omega (arith, e)),
      ne_eqb p 4 (λ e. omega (arith, e)),
      ne_eqb p 12 (λ e. omega (arith, e)),
      ne_eqb p 13 (λ e. omega (arith, e)),
      ne_eqb p 14 (λ e. omega (arith, e)),
      ne_eqb p 5 (λ e. omega (arith, e)),
      ne_eqb p 6 (λ e. omega (arith, e)),
      ne_eqb p 7 (λ e. omega (arith, e)),
      ne_eqb p 8 (λ e. omega (arith, e)),
      ne_eqb p 9 (λ e. omega (arith, e)),
      ne_eqb p 10 (λ e. omega (arith, e)),
      ne_eqb p 11 (λ e. omega (arith, e)),
    )
