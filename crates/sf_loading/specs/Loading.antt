-- What loading does to a reader, in the words of `Read` for the bytes that it reports.
use Rattle.std.specs.Prelude.{◌≡◌, ℕ, List, ◌++◌, Option, Ok, Err}
use Rattle.std.specs.Io.KnownBytes.{Consumes, IsAtEnd}
use Rattle.sf_format.specs.Stored.{Ruled}
use Rattle.sf_streams.specs.Streams.{AreLeft, Loses}
use Rattle.sf_format.specs.declared.defect.Defect.{Defect}
use Rattle.sf_format.specs.Defects.{number_of}
use Rattle.sf_format.specs.Format.{ruled_content_of}
use Rattle.sf_loading.specs.declared.load_fault.LoadFault.{LoadFault}
use Rattle.sf_loading.specs.declared.load_fault.LoadFault.TheVariants.{BadFile}

-- all bytes were read, and these are their content and their rules
pub record Loads (unread_before unread : Option (List ℕ)) (ruled : Ruled) : Type 0 where
  pub text : List ℕ
  pub consumed : Consumes unread_before unread text
  pub at_end : IsAtEnd unread
  pub loads : ruled_content_of text ≡ Ok ruled

-- some bytes were read, and with those that are left they have no content: this is their first fault
pub record Lacks (unread_before unread : Option (List ℕ)) (place inner : ℕ) : Type 0 where
  pub text : List ℕ
  pub rest : List ℕ
  pub consumed : Consumes unread_before unread text
  pub is_left : AreLeft unread rest
  pub defect : Defect
  pub is_inner : inner ≡ number_of defect
  pub faulty : ruled_content_of (text ++ rest) ≡ Err (record { place = place; defect = defect })

-- loading ended so
abbrev pub FailsBy : Option (List ℕ) → Option (List ℕ) → LoadFault → Type 0
FailsBy unread_before unread (BadFile place inner) = Lacks unread_before unread place inner
FailsBy unread_before unread fault = Loses unread_before unread
