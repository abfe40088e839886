use Rattle.std.proofs.Common.{take}
use Rattle.sf_loading.proofs.StreamLaws.{Takes-skipped}
use Rattle.sf_loading.proofs.texts.text.Goals as goal

pub returns : goal.returns
returns g c = (
  take c.args.size c.require.new.window.bytes,
  Takes-skipped c.args.size _ _ _ c.require.new.window c.skip.new.self c.in_ok-require.ensures.ahead c.in_ok-require.ensures.enough c.skip.ensures,
  c.in_ok-text.ensures,
)
