pub mod ProgramJobs
