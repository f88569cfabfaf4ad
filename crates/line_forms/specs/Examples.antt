-- One line of every form as text, as 01, "A book, line by line", and 02, L4 to L6, show the forms.
-- A word that is misspelt alike in the definitions and in the code is seen here.
use Rattle.std.specs.Prelude.{true, false}
use Rattle.exact.specs.Text.{text}
use Rattle.loan_charge.specs.declared.Score.TheVariants.{Scored, Unscored}
use Rattle.line_forms.specs.Claims.{ShowsInRange}
use Rattle.line_forms.specs.declared.Class.TheVariants.{Home, Multi}
use Rattle.line_forms.specs.declared.Kind.TheVariants.{Rate, Float, Fx, Equity as EquityKind, Metal, Other}
use Rattle.line_forms.specs.declared.Item.TheVariants.{Claims, Lossc, Stated, Equity as EquityItem, Aoci, B, C}
use Rattle.line_forms.specs.declared.Content.TheVariants.{Header as header, Loan as loan, Policy as policy, Derivative as derivative}
use Rattle.line_forms.specs.declared.Content.TheVariants.{Asset as asset, Amount as amount, Index as index, Mark as mark}

pub record LineTexts : Type 0 where
  pub book :
      ShowsInRange (text "(book (loans 20) (unscored 1) (fresh 19) (held 300))")
      (header (record { loans = 20; unscored = 1; fresh = 19; held = 300 }))
  pub book-aged :
      ShowsInRange (text "(book (loans 1000000) (unscored 0) (fresh 899999) (held 0))")
      (header (record { loans = 1000000; unscored = 0; fresh = 899999; held = 0 }))
  pub scored :
      ShowsInRange (text "(loan (bal 1234567) (val 7654321) (amort 186) (term 60) (score 719 13) (sup 1) (from 209912) (area toronto))")
      (loan (record { balance = 1234567; value = 7654321; amortization = 186; term = 60; score = Scored 719 13; supplement = 1; from = 209912; area = 7 }))
  pub unscored :
      ShowsInRange (text "(loan (bal 9) (val 80) (amort 7) (term 61) (score none) (sup 0) (from 190001) (area other))")
      (loan (record { balance = 9; value = 80; amortization = 7; term = 61; score = Unscored; supplement = 0; from = 190001; area = 11 }))
  pub home :
      ShowsInRange (text "(policy (class home) (prem 5000) (term 120) (done 3))")
      (policy (record { class = Home; premium = 5000; term = 120; completed = 3 }))
  pub multi :
      ShowsInRange (text "(policy (class multi) (prem 1000000) (term 300) (done 5))")
      (policy (record { class = Multi; premium = 1000000; term = 300; completed = 5 }))
  pub rate :
      ShowsInRange (text "(deriv (kind rate) (cost 12) (notional 400) (months 60) (pays 2) (factor 25))")
      (derivative (record { kind = Rate; cost = record { plus = 12; minus = 0 }; notional = 400; months = 60; payments = 2; factor = 25 }))
  pub float :
      ShowsInRange (text "(deriv (kind float) (cost 0) (notional 400) (months 60) (pays 2) (factor 25))")
      (derivative (record { kind = Float; cost = record { plus = 0; minus = 0 }; notional = 400; months = 60; payments = 2; factor = 25 }))
  pub fx :
      ShowsInRange (text "(deriv (kind fx) (cost -7) (notional 400) (months 60) (pays 2) (factor 25))")
      (derivative (record { kind = Fx; cost = record { plus = 0; minus = 7 }; notional = 400; months = 60; payments = 2; factor = 25 }))
  pub equity-kind :
      ShowsInRange (text "(deriv (kind equity) (cost 90) (notional 400) (months 60) (pays 2) (factor 25))")
      (derivative (record { kind = EquityKind; cost = record { plus = 90; minus = 0 }; notional = 400; months = 60; payments = 2; factor = 25 }))
  pub metal :
      ShowsInRange (text "(deriv (kind metal) (cost -800) (notional 400) (months 60) (pays 2) (factor 25))")
      (derivative (record { kind = Metal; cost = record { plus = 0; minus = 800 }; notional = 400; months = 60; payments = 2; factor = 25 }))
  pub other :
      ShowsInRange (text "(deriv (kind other) (cost 1) (notional 400) (months 60) (pays 2) (factor 25))")
      (derivative (record { kind = Other; cost = record { plus = 1; minus = 0 }; notional = 400; months = 60; payments = 2; factor = 25 }))
  pub asset :
      ShowsInRange (text "(asset (amount 100000) (factor 25))")
      (asset (record { amount = 100000; factor = 25 }))
  pub claims :
      ShowsInRange (text "(claims 1001)")
      (amount (record { item = Claims; amount = record { plus = 1001; minus = 0 } }))
  pub lossc :
      ShowsInRange (text "(lossc 0)")
      (amount (record { item = Lossc; amount = record { plus = 0; minus = 0 } }))
  pub stated :
      ShowsInRange (text "(stated 30)")
      (amount (record { item = Stated; amount = record { plus = 30; minus = 0 } }))
  pub equity :
      ShowsInRange (text "(equity 1000)")
      (amount (record { item = EquityItem; amount = record { plus = 1000; minus = 0 } }))
  pub equity-below :
      ShowsInRange (text "(equity -1000)")
      (amount (record { item = EquityItem; amount = record { plus = 0; minus = 1000 } }))
  pub aoci :
      ShowsInRange (text "(aoci -45)")
      (amount (record { item = Aoci; amount = record { plus = 0; minus = 45 } }))
  pub aoci-zero :
      ShowsInRange (text "(aoci 0)")
      (amount (record { item = Aoci; amount = record { plus = 0; minus = 0 } }))
  pub b :
      ShowsInRange (text "(b 500)")
      (amount (record { item = B; amount = record { plus = 500; minus = 0 } }))
  pub c :
      ShowsInRange (text "(c 100)")
      (amount (record { item = C; amount = record { plus = 100; minus = 0 } }))
  pub calgary :
      ShowsInRange (text "(index calgary 200501 1)")
      (index (record { area = 0; month = 200501; value = 1 }))
  pub edmonton :
      ShowsInRange (text "(index edmonton 200612 99)")
      (index (record { area = 1; month = 200612; value = 99 }))
  pub halifax :
      ShowsInRange (text "(index halifax 200701 10000)")
      (index (record { area = 2; month = 200701; value = 10000 }))
  pub hamilton :
      ShowsInRange (text "(index hamilton 200802 12345)")
      (index (record { area = 3; month = 200802; value = 12345 }))
  pub montreal :
      ShowsInRange (text "(index montreal 200903 1000000)")
      (index (record { area = 4; month = 200903; value = 1000000 }))
  pub ottawagatineau :
      ShowsInRange (text "(index ottawagatineau 201004 7)")
      (index (record { area = 5; month = 201004; value = 7 }))
  pub quebec :
      ShowsInRange (text "(index quebec 201105 200)")
      (index (record { area = 6; month = 201105; value = 200 }))
  pub toronto :
      ShowsInRange (text "(index toronto 201206 3000)")
      (index (record { area = 7; month = 201206; value = 3000 }))
  pub vancouver :
      ShowsInRange (text "(index vancouver 201307 41)")
      (index (record { area = 8; month = 201307; value = 41 }))
  pub victoria :
      ShowsInRange (text "(index victoria 201408 512)")
      (index (record { area = 9; month = 201408; value = 512 }))
  pub winnipeg :
      ShowsInRange (text "(index winnipeg 201509 65536)")
      (index (record { area = 10; month = 201509; value = 65536 }))
  pub composite :
      ShowsInRange (text "(index other 201512 10250)")
      (index (record { area = 11; month = 201512; value = 10250 }))
  pub mark-first :
      ShowsInRange (text "(mark a)")
      (mark (record { back = false; name = 1 }))
  pub mark-region :
      ShowsInRange (text "(mark ontario)")
      (mark (record { back = false; name = 4809245417 }))
  pub back_last :
      ShowsInRange (text "(back zzzzzzzzzzzz)")
      (mark (record { back = true; name = 99246114928149462 }))
