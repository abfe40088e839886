-- Internal: who wants to trust the program need not read this file.
-- The status that the program ends with before its time.
use Rattle.std.specs.Prelude.{◌≡◌, ◌⊎◌, ℕ}
use Rattle.sf_options.specs.declared.asked.OptionsFault.TheVariants as words
use Rattle.sf_session.specs.declared.fault.SessionFault.TheVariants as sessions
use Rattle.sfstore.specs.declared.ending.Ending.{Ending}
use Rattle.sfstore.specs.declared.ending.Ending.TheVariants as endings

-- 1 after a fault of serving, 2 of the words, 3 of loading, 4 of saving; 0 is left to words that ask for help
abbrev pub IsStatusOf : Ending → ℕ → Type 0
IsStatusOf (endings.Serve fault) n = n ≡ 1
IsStatusOf endings.Arguments n = n ≡ 2
IsStatusOf endings.Options n = n ≡ 2
IsStatusOf (endings.Words words.Memory) n = n ≡ 2
IsStatusOf (endings.Words (words.Refused error)) n = (n ≡ 0) ⊎ (n ≡ 2)
IsStatusOf endings.LoadOpen n = n ≡ 3
IsStatusOf (endings.Load fault) n = n ≡ 3
IsStatusOf endings.SaveOpen n = n ≡ 4
IsStatusOf (endings.Save fault) n = n ≡ 4
IsStatusOf (endings.Session (sessions.Serve fault)) n = n ≡ 1
IsStatusOf (endings.Session (sessions.Home fault)) n = n ≡ 3
IsStatusOf (endings.Session (sessions.Load fault)) n = n ≡ 3
IsStatusOf (endings.Session (sessions.Journal fault)) n = n ≡ 3
IsStatusOf (endings.Session (sessions.Save fault)) n = n ≡ 4
IsStatusOf (endings.Session sessions.SaveChanged) n = n ≡ 4
