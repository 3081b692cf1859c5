use Rattle.sector_disk.proofs.DiskViews.DeviceViews.{table-synced, table-thinned}
use Rattle.luks_store.proofs.Copying.SeenLemmas.{call_seen, failed_seen, copy_written, copy_tried, seen}
use Rattle.luks_store.proofs.header_copies.laws.calls_are_seen.Goals as goal

pub returns-clause-commits : goal.returns-clause-commits
returns-clause-commits c = λ stage one two size layout old new now room told. (
  λ call. call_seen stage one two size layout old new now room told call,
  λ call. failed_seen stage one two size layout old new now room told call,
)

pub returns-clause-repairs : goal.returns-clause-repairs
returns-clause-repairs c = λ one two bad size layout old new now room told. (
  λ call. copy_written old new now size one two layout bad room told call,
  λ call. copy_tried old new now size one two layout bad room told call,
  λ call. seen old now _ (table-synced old new now call told),
  λ call. seen old now _ (table-thinned old new now call told),
)
