pub mod CodeJudging
