-- A script that is given to a session, line by line.
use Rattle.std.specs.Prelude.{ℕ, true, List, [], ◌++◌}
use Rattle.tc_text.specs.Reading.{IsFirstLine}
use Rattle.tc_live.specs.Receiver.{new_receiver}
use Rattle.tc_live.specs.declared.check.FrameCheck.TheVariants.{Nothing}
use Rattle.tc_session.specs.Session.{IsEngineSaid}
use Rattle.tc_session.specs.declared.engine.Engine.{Engine}
use Rattle.tc_session.specs.declared.engine.Engine.TheVariants.{Script}

-- The first lines of a script were given to a session for scripts, one after the other, and each was good. These are
-- their texts, one after the other, the engine that they left, and the octets of the script that follow them.
pub data AreSaid (scid : ℕ) (script : List ℕ) : List ℕ → Engine → List ℕ → Type 0 where
  none_said : AreSaid scid script [] (Script (new_receiver Nothing scid) 0) script
  one_said : {texts rest line after : List ℕ} {engine new : Engine} (text : List ℕ)
      → AreSaid scid script texts engine rest → IsFirstLine rest line after → IsEngineSaid true engine line new text
      → AreSaid scid script (texts ++ text) new after
