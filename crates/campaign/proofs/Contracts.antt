-- What the contract of each call says, in the definitions that the laws speak of. A clause that is lost or weakened is missed here.
-- Assumes nothing.
use mathlib.Core.Path.{◌≡◌}
use lib.ListN.{length}
use Rattle.words.specs.Contract.{Says}
use Rattle.promise.specs.Campaign as model
use Rattle.campaign.specs.Calls.{answer_of, bytes_of}
use Rattle.campaign.specs.Answers.{BeginIs, RequestIs, ReportIs}
use Rattle.campaign.proofs.Campaign.begin.Reads as begin
use Rattle.campaign.proofs.Campaign.request.Reads as request
use Rattle.campaign.proofs.Campaign.report.Reads as report
use Rattle.campaign.proofs.Campaign.report_mark.Reads as report-mark

-- Campaign::begin(text: &[u8]) -> Begun
pub begin-says : Says begin.Learnt (λ κs (text, _) r e. BeginIs text.now r)
begin-says κs a r e h = h

-- Campaign::request(self, buf: &mut [u8]) -> Requested
pub request-says : Says request.Learnt
    (λ κs (self, (buf, _)) r (_, (left, _)).
    let c = model.request (length buf.now) in
    RequestIs c (answer_of c self.state) self.state r × (left.now ≡ bytes_of self.state buf.now))
request-says κs a r e h = h

-- Campaign::report(self, kind: u8) -> Reported
pub report-says : Says report.Learnt (λ κs (self, (kind, _)) r e. let c = model.report kind in ReportIs c (answer_of c self.state) self.state r)
report-says κs a r e h = h

-- Campaign::report_mark(self, mark: u64, kind: u8) -> Reported
pub report-mark-says : Says report-mark.Learnt
    (λ κs (self, (mark, (kind, _))) r e. let c = model.report_on mark kind in ReportIs c (answer_of c self.state) self.state r)
report-mark-says κs a r e h = h
