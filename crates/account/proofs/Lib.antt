mod Drawn  -- the account drawn is the tool's own
mod Tests  -- the tests, one behind the other
mod Answers  -- the promise of the account at each kind of return
mod Verdicts  -- the promise of the check at each kind of return
mod Unique  -- each promise allows one outcome
pub mod Claims  -- a proof of each claim
