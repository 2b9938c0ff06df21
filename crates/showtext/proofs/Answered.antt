-- What a show file and a plan script are answered with.
use Rattle.std.proofs.Common.{◌≡◌, ℕ, ◌≤◌, List, Ok, Err, Result, OnOk, sym, ap, ◌∙◌, subst}
use Rattle.readings.specs.Ranges.{WellMade}
use Rattle.readings.specs.Refusals.{Content, content}
use Rattle.readings.specs.declared.reading.Reading.{Reading}
use Rattle.readings.specs.declared.refusal.Refusal.{Refusal}
use Rattle.strip.specs.Strips.{Strip, laid_strip}
use Rattle.showtext.specs.Plans.{IfRefused}
use Rattle.showtext.specs.Scripted.{scripted}
use Rattle.showtext.specs.Spelled.{plan_script}
use Rattle.showtext.specs.Stored.{StoresAs}
use Rattle.showtext.specs.Told.{TellsGrant, Tells}
use Rattle.showtext.specs.declared.made.Stored.{Stored}
use Rattle.showtext.specs.declared.unmade.Unmade.{Unmade}
use Rattle.showtext.specs.declared.unmade.Unmade.TheVariants.{Refused, Memory}
use Rattle.showtext.proofs.Spelled.{script_makes}

-- where a script is that of a list, its answer is for the strip that is laid for the list
pub answered : (script : List ℕ) (answer : Result Stored Refusal) → StoresAs (scripted script) answer
    → (rows : List Reading) (n : ℕ) → WellMade rows → n ≤ 65535 → script ≡ plan_script rows n
    → StoresAs (laid_strip rows n) answer
answered script answer stores rows n w small is =
    subst (λ (said : Result Strip Content). StoresAs said answer) (ap scripted is ∙ script_makes n rows small w) stores

-- what holds of the strip of a script holds of each
pub walked_each : (script : List ℕ) (made s : Strip) → scripted script ≡ Ok made → TellsGrant made → scripted script ≡ Ok s
    → TellsGrant s
walked_each script made s e walked f = let same : made ≡ s = cc in subst TellsGrant same walked

-- a refusal is the answer
pub refused_so : (script : List ℕ) (e : Unmade) (refusal : Refusal) → IfRefused e (λ r. scripted script ≡ Err (content r))
    → e ≡ Refused refusal → StoresAs (scripted script) (Err refusal)
refused_so script (Memory e) refusal said is = absurd cc
refused_so script (Refused r) refusal said is = rw said (ap content (let same : r ≡ refusal = cc in sym same))

-- one text alone tells what a file is read as
pub one_text : {T E : Type 0} (r : Result T E) (text : List ℕ) (read said : Result Strip Content) → read ≡ said
    → OnOk r ((other : List ℕ) → Tells said other → other ≡ text) → OnOk r ((other : List ℕ) → Tells read other → other ≡ text)
one_text r text read said e only =
    subst (λ (x : Result Strip Content). OnOk r ((other : List ℕ) → Tells x other → other ≡ text)) (sym e) only
